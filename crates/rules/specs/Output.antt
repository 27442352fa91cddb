-- What a call that writes bytes leaves in the buffer it was lent, and what it answers. 01, Refusal numbers, 7; a refusal changes nothing.
use Rattle.std.specs.Prelude.{ℕ, cond, List, ◌≡◌, ltb, length, Result, Ok, Err}
use Rattle.std.proofs.lemmas.List.Edits.{sets}
use Rattle.rules.specs.Hash.{hashes_at}
use Rattle.rules.specs.declared.refusal.Refusal.{Refusal}
use Rattle.rules.specs.declared.refusal.Refusal.TheVariants.{NoRoom}

-- What is to be written: these bytes, or none, for a refusal that comes before 7.
pub data Output : Type 0 where
  bytes : List ℕ → Output
  refuse : Refusal → Output

-- How long what is to be written is, or the refusal that comes before.
unfoldable pub size_of : Output → Result ℕ Refusal
size_of (bytes l) = Ok (length l)
size_of (refuse r) = Err r

-- 7 with the length wanted where the room is less than that, else how many bytes were written.
abbrev pub answer_of : Output → ℕ → Result ℕ Refusal
answer_of (bytes l) room = cond (ltb room (length l)) (Err (NoRoom (length l))) (Ok (length l))
answer_of (refuse r) room = Err r

-- The buffer at exit: the bytes at its start and the rest as it was; after a refusal all of it as it was.
abbrev pub content_of : Output → List ℕ → List ℕ
content_of (bytes l) before = cond (ltb (length before) (length l)) before (sets before 0 l)
content_of (refuse r) before = before

-- The answer and the buffer at exit together, which is what a writing call ensures.
pub record Written (o : Output) (before after : List ℕ) (r : Result ℕ Refusal) : Type 0 where
  pub answer : r ≡ answer_of o (length before)
  pub content : after ≡ content_of o before

-- A list of hashes gathered at a buffer's start: the first hashes of the buffer are these, and as many. Bytes behind them are of no account.
pub record Gathered (hs after : List ℕ) (count : ℕ) : Type 0 where
  pub many : count ≡ length hs
  pub list : hashes_at after 0 count ≡ hs
