-- What is reached from some numbers over steps from one number to another: the least set that holds the first and is closed under the
-- second. Ancestors, waiting rows that are asked, and dependents are all of this kind.
use Rattle.std.specs.Prelude.{ℕ, zero, suc, Bool, false, ◌||◌, ◌&&◌}

-- p holds for some number below n.
unfoldable pub some_below : ℕ → (ℕ → Bool) → Bool
some_below zero p = false
some_below (suc n) p = p n || some_below n p

-- Reached in fewer steps than the first argument says, by way of numbers below n.
unfoldable pub reach_in : ℕ → ℕ → (ℕ → Bool) → (ℕ → ℕ → Bool) → ℕ → Bool
reach_in zero n from to i = false
reach_in (suc steps) n from to i = from i || some_below n (λ k. reach_in steps n from to k && to k i)

-- Reached at all: in fewer steps than there are numbers.
unfoldable pub reach : ℕ → (ℕ → Bool) → (ℕ → ℕ → Bool) → ℕ → Bool
reach n from to i = reach_in n n from to i
