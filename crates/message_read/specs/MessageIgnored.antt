-- What is ignored of a message, and what a call that reads one leaves. 02, M-103: the sum of what is ignored behind the filters' fields and, apart, the
-- number of bytes after the flags section. What is read stays `message_at`; here is counted what it leaves.
use Rattle.std.specs.Prelude.{ℕ, List, ◌≡◌, length, Result, Ok, Err, Option, Some, None}
use Rattle.std.proofs.lemmas.List.Edits.{sets}
use Rattle.message_items.specs.ItemsIgnored.{ignored_from}
use Rattle.message.specs.Message.{total}
use Rattle.wire.specs.Item.{left_at}
use Rattle.message_read.specs.MessageRead.{Reading, read, refused, read_with, haves_into, chunks_into}
use Rattle.message_read.specs.declared.parse.Places.{Places}
use Rattle.rules.specs.declared.refusal.Refusal.{Refusal}
use Rattle.message.specs.declared.flags.MessageFlags.{MessageFlags}

-- The numbers of a message's haves.
unfoldable pub ignored_of : List ℕ → Places → List ℕ
ignored_of s p = ignored_from s p.haves.count p.haves.start

-- The bytes after a flags section that ends at the next place; without a section none.
unfoldable pub behind_of : List ℕ → Option MessageFlags → ℕ → ℕ
behind_of s None next = 0
behind_of s (Some f) next = left_at s next (length s)

-- What was read with its two numbers.
unfoldable pub counted_of : List ℕ → Reading → Result (Places × ℕ × ℕ) Refusal
counted_of s (read p haves chunks) = Ok (p, total (ignored_of s p), behind_of s p.flags p.next)
counted_of s (refused r) = Err r

-- A message that was read with the two numbers of ignored bytes, both forgotten.
unfoldable pub as_decoded : Result (Places × ℕ × ℕ) Refusal → Result Places Refusal
as_decoded (Ok (p, ignored, behind)) = Ok p
as_decoded (Err r) = Err r

-- The list of the haves' numbers at exit: they stand at its start, and the rest is as it was; after a refusal all of it.
unfoldable pub ignored_into : List ℕ → Reading → List ℕ → List ℕ
ignored_into s (read p haves chunks) before = sets before 0 (ignored_of s p)
ignored_into s (refused r) before = before

-- A message read into lent lists: the answer, and what the call leaves in each.
pub record DecodedInto (s haves₀ haves₁ chunks₀ chunks₁ ignored₀ ignored₁ : List ℕ) (r : Result (Places × ℕ × ℕ) Refusal) : Type 0 where
  pub answer : r ≡ counted_of s (read_with s haves₀ chunks₀)
  pub haves : haves₁ ≡ haves_into (read_with s haves₀ chunks₀) haves₀
  pub chunks : chunks₁ ≡ chunks_into (read_with s haves₀ chunks₀) chunks₀
  pub ignored : ignored₁ ≡ ignored_into s (read_with s haves₀ chunks₀) ignored₀
