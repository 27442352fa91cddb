-- Numbers. 01, Wire: LEB128 in its shortest form; Refusal numbers, 1 and 3: a number is refused with 3 as soon as nothing that may follow can mend it, and
-- with 1 where the end cuts one that could still be good.
use Rattle.std.specs.Prelude.{ℕ, zero, suc, ◌+◌, ◌-◌, ◌*◌, ◌/◌, ◌%◌, ◌^◌, ◌≤◌, cond, ◌||◌, List, [], ◌∷◌, ◌++◌, ◌≡◌, ltb, length, Result, Ok, Err}
use Rattle.std.proofs.Math.Seq.{slice}
use Rattle.std.proofs.lemmas.List.Edits.{sets}
use Rattle.rules.specs.declared.refusal.Refusal.TheVariants.{Cut, BadNumber}
use Rattle.rules.specs.declared.refusal.Refusal.{Refusal}

-- Refusal 3: the largest number of 64 bits.
abbrev pub most64 : ℕ
most64 = 2 ^ 64 - 1

-- The largest number in a filter, of 32 bits.
abbrev pub most_filter : ℕ
most_filter = 4294967295

-- A number seven bits a byte, lowest first, 128 added to each byte but the last. The first argument bounds the steps.
unfoldable pub sevens : ℕ → ℕ → List ℕ
sevens zero n = n ∷ []
sevens (suc k) n = cond (ltb n 128) (n ∷ []) ((n % 128 + 128) ∷ sevens k (n / 128))

-- The shortest form: it stops at the first part below 128, which takes fewer steps than n.
unfoldable pub shortest : ℕ → List ℕ
shortest n = sevens n n

-- What bytes begin with: a number and how many bytes it has, one that the end cuts, or one that no ending makes good.
pub data Found : Type 0 where
  ends : ℕ → ℕ → Found
  cut : Found
  bad : Found

-- What the three mean for numbers up to `most`.
pub data Means (most : ℕ) (bytes : List ℕ) : Found → Type 0 where
  good : (n : ℕ) (rest : List ℕ) → n ≤ most → bytes ≡ shortest n ++ rest → Means most bytes (ends n (length (shortest n)))
  short : (n b : ℕ) (rest : List ℕ) → n ≤ most → bytes ++ b ∷ rest ≡ shortest n → Means most bytes cut
  hopeless : ((n : ℕ) (rest : List ℕ) → n ≤ most → bytes ≡ shortest n ++ rest → ⊥)
      → ((n : ℕ) (ending : List ℕ) → n ≤ most → bytes ++ ending ≡ shortest n → ⊥)
      → Means most bytes bad

-- After a byte of 128 or more: its low seven bits, and 128 times what follows.
unfoldable pub go_on : ℕ → Found → Found
go_on low (ends n size) = ends (low + 128 * n) (suc size)
go_on low cut = cut
go_on low bad = bad

-- What the bytes of a number are found to be, as a function that is proved to be what is meant. `least` is 0 for a first byte and 1 after it, as a last byte of 0 isn't shortest.
-- A byte of 128 or more counts low + 128 at the least, which is the byte itself, so one test against `most` serves both kinds.
unfoldable pub find : ℕ → ℕ → List ℕ → Found
find least most [] = cut
find least most (b ∷ bs) =
    cond (ltb b least || ltb most b)
    bad
    (cond (ltb b 128) (ends b 1) (go_on (b - 128) (find 1 ((most - (b - 128)) / 128) bs)))

-- Refusals 1 and 3 return the place where the number starts.
unfoldable pub answer_at : ℕ → Found → Result (ℕ × ℕ) Refusal
answer_at at (ends n size) = Ok (n, at + size)
answer_at at cut = Err (Cut at)
answer_at at bad = Err (BadNumber at)

-- The number up to `most` at a place of s, in the part that goes up to `end`.
unfoldable pub number_at : ℕ → List ℕ → ℕ → ℕ → Result (ℕ × ℕ) Refusal
number_at most s at end = answer_at at (find 0 most (slice at end s))

-- Bytes put at a place of a buffer: they stand there, the rest is as it was, and `next` is the place after them.
pub record Put (before after : List ℕ) (at : ℕ) (bytes : List ℕ) (next : ℕ) : Type 0 where
  pub place : next ≡ at + length bytes
  pub content : after ≡ sets before at bytes
