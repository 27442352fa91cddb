-- What is ignored of a message: with the numbers forgotten it is read as 01 says; the haves' numbers are as many as the haves and stand behind each
-- field up to its have's end; and what was read, with the bytes after the flags section, is the whole message.
use Prim.Native.Nat.{ℕ, ◌+◌, ◌≤◌}
use mathlib.Core.List.{List}
use mathlib.Core.Path.{◌≡◌, refl, ◌∙◌}
use native.Mathlib.Omega.{arith}
use lib.ListN.{length}
use lib.Seq.{slice}
use Rattle.message_items.proofs.IgnoredLaws.{ignored_many, Ignores, ignored_each}
use Rattle.message_items.proofs.ItemLaws.{haves_behind}
use Rattle.message.specs.Flags.{flags_of, flags_in}
use Rattle.wire.specs.Item.{left_at}
use Rattle.wire.proofs.Item.{left_is}
use Rattle.message_read.specs.MessageIgnored.{ignored_of, behind_of, counted_of, as_decoded}
use Rattle.message_read.specs.MessageRead.{Reading, read, refused, message_at, decoded_of}
use Rattle.message_read.specs.declared.parse.Places.{Places}
use Rattle.message_read.proofs.Messages.{message_words, section_apart}
use Rattle.message_read.proofs.ReadLaws.{message_behind}
use Rattle.std.specs.Prelude.{Option, Some, None}
use Rattle.message.specs.declared.flags.MessageFlags.{MessageFlags}

-- ---- the numbers forgotten

pub message_forgotten : (s : List ℕ) (x : Reading) → as_decoded (counted_of s x) ≡ decoded_of x
unfolding counted_of as_decoded decoded_of
message_forgotten s (read p haves chunks) = refl
message_forgotten s (refused r) = refl

-- ---- a section, or none

pub told_absent : (s : List ℕ) (x : Option MessageFlags) (next : ℕ) → x ≡ None → behind_of s x next ≡ 0
unfolding behind_of
told_absent s x next e = rw e

pub told_present : (s : List ℕ) (x : Option MessageFlags) (next : ℕ) (f : MessageFlags) → x ≡ Some f → behind_of s x next ≡ left_at s next (length s)
unfolding behind_of
told_present s x next f e = rw e

-- ---- what stands there

-- A message that was read ends where its flags section does; behind it are the bytes that are counted, up to the message's end.
behind_adds : (s : List ℕ) (flags : Option MessageFlags) (next : ℕ) → next ≤ length s → (flags ≡ None → next ≡ length s) → next + behind_of s flags next ≡ length s
unfolding behind_of
behind_adds s None next h none = omega (arith, none refl)
behind_adds s (Some f) next h none = omega (arith, left_is s next (length s))

pub behind_stands : (s : List ℕ) (p : Places) (haves chunks : List ℕ) → message_at s ≡ read p haves chunks
    → p.next + behind_of s p.flags p.next ≡ length s
behind_stands s p haves chunks e =
    let b = message_behind s p haves chunks e in
    let w = message_words s p haves chunks e in
    behind_adds s p.flags p.next w.up_to
    (λ none.
    section_apart s b.at_section p.flags p.next b.section
    (λ past q. omega (arith, q.1, w.up_to))
    (λ start end here part q.
    absurd
    (let a : ◌≡◌ {A = Option MessageFlags} (Some (flags_of (flags_in (slice start end s)))) None = q.0 ∙ none in
    let z : ◌≡◌ {A = ℕ} 0 1 = cc in
    omega arith)))

-- The haves' numbers: one for each have, and each stands behind its filter's field up to the end of the have.
pub record HavesIgnore (s : List ℕ) (p : Places) (haves : List ℕ) : Type 0 where
  pub many : length (ignored_of s p) ≡ p.haves.count
  pub next : ℕ
  pub each : Ignores s p.haves.count p.haves.start haves (ignored_of s p) next

pub ignored_stand : (s : List ℕ) (p : Places) (haves chunks : List ℕ) → message_at s ≡ read p haves chunks → HavesIgnore s p haves
unfolding ignored_of
ignored_stand s p haves chunks e =
    let b = message_behind s p haves chunks e in
    let h = haves_behind s b.at_haves p.haves haves b.at_chunks b.have_list in
    record {
      many = ignored_many s p.haves.count p.haves.start haves b.at_chunks h.each;
      next = b.at_chunks;
      each = ignored_each s p.haves.count p.haves.start haves b.at_chunks h.each;
    }
