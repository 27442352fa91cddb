-- Lists that are passed as bytes. 01, Refusal numbers, 4 for one that is too long; part of a hash at the end is cut, so 1.
use Rattle.std.specs.Prelude.{ℕ, ◌*◌, ◌/◌, ◌%◌, cond, List, ltb, eqb, length, Result, Ok, Err}
use Rattle.rules.specs.Sizes.{sizes}
use Rattle.rules.specs.declared.refusal.Refusal.{Refusal}
use Rattle.rules.specs.declared.refusal.Refusal.TheVariants.{Cut, PastSize}

-- How many hashes the bytes s are: 4 for more than so many, then 1 with the start of a hash that isn't whole.
unfoldable pub passed_up_to : ℕ → List ℕ → Result ℕ Refusal
passed_up_to most s =
    cond (ltb (most * sizes.hash) (length s))
    (Err (PastSize 0))
    (cond (eqb (length s % sizes.hash) 0)
    (Ok (length s / sizes.hash))
    (Err (Cut (sizes.hash * (length s / sizes.hash)))))

-- A list of hashes as messages and sessions have them.
abbrev pub passed_hashes : List ℕ → Result ℕ Refusal
passed_hashes s = passed_up_to sizes.hashes s

-- What follows a list that was passed, or its refusal passed on.
unfoldable pub after_passed : {A : Type 0} → Result ℕ Refusal → (Refusal → A) → (ℕ → A) → A
after_passed (Ok n) refused k = k n
after_passed (Err r) refused k = refused r
