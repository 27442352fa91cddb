-- Reading what was written gives the message back, and ignores nothing. 01, Wire: "Reading what was written gives the message back if its filters have n at least 1 or
-- are the default and its flags are below 80." Part after part is read where it was written.
use Prim.Native.Nat.{ℕ, ◌+◌, ◌-◌, ◌%◌, ◌≤◌}
use mathlib.Core.List.{List, [], ◌∷◌, ◌++◌}
use mathlib.Core.Path.{◌≡◌, refl, sym, ◌∙◌, ap}
use native.Mathlib.Omega.{arith}
use borrow.Author.Tests.{le-ltb}
use lib.Bits.{or_zero_l}
use lib.ListN.{length, get_or}
use lib.Seq.{slice, length-slice, take-length}
use Rattle.bloom.specs.Have.{Have, haves_of}
use Rattle.message.specs.Flags.{flags_of, add_flags, flags_in, section_bytes}
use Rattle.message.specs.Message.{Message, type_of, counted, total, have_bytes, message_bytes}
use Rattle.message.specs.Sound.{SoundMessage, FlagsReadBack, ReadsBack}
use Rattle.message.specs.declared.version.MessageVersion.{MessageVersion}
use Rattle.message.specs.declared.version.MessageVersion.TheVariants.{V1, V2}
use Rattle.rules.specs.Hash.{hashes_at}
use Rattle.rules.specs.Sizes.{sizes}
use Rattle.wire.specs.Item.{run, left_at, prefixed_bytes, hash_list_bytes}
use Rattle.leb128.specs.Number.{shortest}
use Rattle.wire.specs.declared.parse.Run.{Run}
use Rattle.wire.proofs.Item.{left_is, prefixed_inside, prefixed_written, hash_list_inside, hash_list_written}
use Rattle.leb128.proofs.Number.{shortest_one}
use Rattle.message_items.specs.Items.{chunks_of}
use Rattle.message_items.proofs.RoundTrip.{onward, haves_written, chunks_written}
use Rattle.message_read.specs.MessageIgnored.{ignored_of, behind_of}
use Rattle.message_read.specs.MessageRead.{read, heads_at, opening_at, section_at, message_at, message_in}
use Rattle.message_read.specs.declared.parse.Places.{Places}
use Rattle.message_read.proofs.ReadLaws.{MessageBehind, behind_read, heads_read, opening_first, opening_second, section_none, section_read}
use Rattle.std.specs.Prelude.{Ok, Option, Some, None}
use Rattle.message.specs.declared.flags.MessageFlags.{MessageFlags}

-- ---- reading back

-- The bytes are read, and what they say is the message.
pub record ReadBack (s : List ℕ) (m : Message) : Type 0 where
  pub places : Places
  pub haves : List ℕ
  pub chunks : List ℕ
  pub is : message_at s ≡ read places haves chunks
  pub says : message_in s places haves chunks ≡ m
  -- 02, M-103: numbers of ignored bytes are zero after writing and reading
  pub ignored : total (ignored_of s places) ≡ 0
  pub behind : behind_of s places.flags places.next ≡ 0

-- ---- the flags section

record SectionWritten (s : List ℕ) (at : ℕ) (flags : Option MessageFlags) : Type 0 where
  next : ℕ
  is : section_at s at ≡ Ok (flags, next)
  behind : behind_of s flags next ≡ 0

section_written : (s : List ℕ) (at : ℕ) (flags : Option MessageFlags) → FlagsReadBack flags → slice at (length s) s ≡ section_bytes flags → SectionWritten s at flags
unfolding section_bytes flags_in add_flags prefixed_bytes behind_of
section_written s at None good same =
    let l : length s - at ≡ 0 = sym (length-slice at (length s) s (omega arith)) ∙ ap length same in
    record { next = at; is = section_none s at (omega arith); behind = refl }
section_written s at (Some f) good same =
    let t : List ℕ = 0x02 ∷ (0x80 + f.0 % 0x80) ∷ [] in
    let form : slice at (length s) s ≡ prefixed_bytes t ++ [] = rw (shortest_one 2 (omega arith)) same in
    let w = prefixed_written s t [] at (length s) (omega arith) form in
    let start : ℕ = at + length (shortest (length t)) in
    let end : ℕ = at + length (prefixed_bytes t) in
    let inside = prefixed_inside s at (length s) start end w.0 in
    let high : 0x80 ≤ 0x80 + f.0 % 0x80 = omega arith in
    let low : 0x80 + f.0 % 0x80 - 0x80 ≡ f.0 = omega arith in
    let said : flags_in t ≡ f.0 = rw (le-ltb (0x80 + f.0 % 0x80) 0x80 high, or_zero_l (0x80 + f.0 % 0x80 - 0x80)) low in
    let whole : f ≡ flags_of (flags_in (slice start end s)) = ap flags_of (sym (ap flags_in w.1 ∙ said)) in
    let l : length s - at ≡ 3 = sym (length-slice at (length s) s (omega arith)) ∙ ap length same in
    let long : length (prefixed_bytes t) ≡ 3 = rw (shortest_one 2 (omega arith)) in
    let none : left_at s end (length s) ≡ 0 = omega (arith, left_is s end (length s)) in
    record { next = end; is = section_read s at (omega (arith, inside)) start end f w.0 whole; behind = none }

-- ---- the whole message

tail_of : (x : ℕ) (t : List ℕ) → slice 1 (length (x ∷ t)) (x ∷ t) ≡ t
tail_of x t = take-length t

opened_as : (s : List ℕ) → length s ≤ sizes.message → (length s ≡ 0 → ⊥) → (v : MessageVersion) → get_or s 0 0 ≡ type_of v → opening_at s ≡ heads_at s v
opened_as s small some V1 e = opening_first s small some e
opened_as s small some V2 e = opening_second s small some (λ q. omega (arith, e, q)) e

abbrev message_of_lem : MessageVersion → List ℕ → List ℕ → List Have → List (List ℕ) → Option MessageFlags → Message
message_of_lem version heads need haves chunks flags =
    record { version = version; heads = heads; need = need; haves = haves; chunks = chunks; flags = flags }

same_message : (v : MessageVersion) (f : Option MessageFlags) (a₁ a₂ b₁ b₂ : List ℕ) (c₁ c₂ : List Have) (d₁ d₂ : List (List ℕ))
    → a₁ ≡ a₂
    → b₁ ≡ b₂
    → c₁ ≡ c₂
    → d₁ ≡ d₂
    → message_of_lem v a₁ b₁ c₁ d₁ f ≡ message_of_lem v a₂ b₂ c₂ d₂ f
same_message v f a₁ a₂ b₁ b₂ c₁ c₂ d₁ d₂ p q r t = rw (p, q, r, t)

pub message_there_and_back : (s : List ℕ) (m : Message) → s ≡ message_bytes m → SoundMessage m → ReadsBack m → ReadBack s m
unfolding message_bytes message_in ignored_of
message_there_and_back s m e sound said =
    let b5 : List ℕ = section_bytes m.flags in
    let b4 : List ℕ = counted prefixed_bytes m.chunks ++ b5 in
    let b3 : List ℕ = counted have_bytes m.haves ++ b4 in
    let b2 : List ℕ = hash_list_bytes m.need ++ b3 in
    let b1 : List ℕ = hash_list_bytes m.heads ++ b2 in
    let is : s ≡ type_of m.version ∷ b1 = e in
    let small : length s ≤ sizes.message = rw is sound.size in
    let some : length s ≡ 0 → ⊥ = rw is (λ q. omega (arith, q)) in
    let type : get_or s 0 0 ≡ type_of m.version = rw is in
    let s1 : slice 1 (length s) s ≡ b1 = rw is (tail_of (type_of m.version) b1) in
    let h = hash_list_written s m.heads b2 1 (length s) sound.heads.are sound.heads.few s1 in
    let heads : Run = run (1 + length (shortest (length m.heads))) (length m.heads) in
    let i : ℕ = 1 + length (hash_list_bytes m.heads) in
    let ih = hash_list_inside s 1 (length s) heads i h.0 in
    let s2 = onward s (hash_list_bytes m.heads) b2 1 ih.there s1 in
    let n = hash_list_written s m.need b3 i (length s) sound.need.are sound.need.few s2 in
    let need : Run = run (i + length (shortest (length m.need))) (length m.need) in
    let j : ℕ = i + length (hash_list_bytes m.need) in
    let inn = hash_list_inside s i (length s) need j n.0 in
    let s3 = onward s (hash_list_bytes m.need) b3 i inn.there s2 in
    let hv = haves_written s small m.haves sound.haves said.filters sound.few j b4 s3 in
    let k : ℕ = j + length (counted have_bytes m.haves) in
    let s4 = onward s (counted have_bytes m.haves) b4 j hv.there s3 in
    let ch = chunks_written s small m.chunks sound.chunks k b5 s4 in
    let l : ℕ = k + length (counted prefixed_bytes m.chunks) in
    let s5 = onward s (counted prefixed_bytes m.chunks) b5 k ch.there s4 in
    let sec = section_written s l m.flags said.flags s5 in
    let p : Places =
    record {
      version = m.version;
      heads = heads;
      need = need;
      haves = hv.haves;
      chunks = ch.chunks;
      flags = m.flags;
      next = sec.next;
    }
    in
    let behind : MessageBehind s p hv.words ch.words =
    record {
      at_need = i;
      at_haves = j;
      at_chunks = k;
      at_section = l;
      opening = opened_as s small some m.version type ∙ heads_read s m.version heads i h.0;
      need = n.0;
      have_list = hv.is;
      chunk_list = ch.is;
      section = sec.is;
    }
    in
    record {
      places = p;
      haves = hv.words;
      chunks = ch.words;
      is = behind_read s p hv.words ch.words behind;
      says =
          same_message m.version m.flags
          (hashes_at s heads.start heads.count)
          m.heads
          (hashes_at s need.start need.count)
          m.need
          (haves_of s hv.words)
          m.haves
          (chunks_of s ch.words)
          m.chunks
          h.1
          n.1
          hv.says
          ch.says;
      ignored = hv.nothing;
      behind = sec.behind;
    }
