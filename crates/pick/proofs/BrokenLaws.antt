-- The walk along a pick: at each hash the rest of the walk gives the place that the whole does; and what is left of the budget fits the sizes that are left if
-- the budget fits all of them. Assumes nothing.
use Prim.Native.Nat.{ℕ, suc, ◌+◌, ◌-◌, ◌*◌, ◌≤◌, ◌<◌}
use mathlib.Core.Bool.{Bool, true, false}
use mathlib.Core.List.{List, [], ◌∷◌}
use mathlib.Core.Path.{◌≡◌}
use native.Mathlib.Numerals.{add-one}
use native.Mathlib.Omega.{arith}
use borrow.Author.Tests.{leb-true, le-leb}
use lib.Dec.{leb}
use lib.ListN.{length, get_or}
use Rattle.hash_order.specs.Order.{every}
use Rattle.rules.proofs.Cases.{split, both, same_truth}
use Rattle.rules.specs.Hash.{hash_at, hashes_at}
use Rattle.rules.specs.Sizes.{sizes}
use Rattle.table.proofs.TableLaws.{row_of_held}
use Rattle.table.specs.Table.{Row, row_number, held}
use Rattle.pick.specs.Picking.{hash_fits, first_broken, size_sum}

-- what is left of a pick from hash k on
pub pick_rest : List ℕ → ℕ → ℕ → List ℕ
pick_rest s count k = hashes_at s (sizes.hash * k) (count - k)

module _ (s : List ℕ) (count : ℕ) where
  pub rest_all : pick_rest s count 0 ≡ hashes_at s 0 count
  unfolding pick_rest
  rest_all =
      let a : sizes.hash * 0 ≡ 0 = omega arith in
      let b : count - 0 ≡ count = omega arith in
      rw (a, b)

  pub rest_more : (k : ℕ) → k < count → pick_rest s count k ≡ hash_at s (sizes.hash * k) ∷ pick_rest s count (k + 1)
  unfolding pick_rest hashes_at
  rest_more k h =
      let c : count - k ≡ suc (count - (k + 1)) = omega arith in
      let a : sizes.hash * (k + 1) ≡ sizes.hash * k + sizes.hash = omega arith in
      rw (c, a)

  pub rest_none : (k : ℕ) → count ≤ k → pick_rest s count k ≡ []
  unfolding pick_rest hashes_at
  rest_none k h =
      let c : count - k ≡ 0 = omega arith in
      rw c

-- ---- the first hash that breaks a rule

module _ (t : List Row) (list s : List ℕ) (count : ℕ) where
  abbrev all : List ℕ
  all = hashes_at s 0 count

  pub broken_from : ℕ → ℕ → ℕ
  broken_from from k = first_broken t list all from k (pick_rest s count k)

  pub broken_starts : broken_from 0 0 ≡ first_broken t list all 0 0 all
  unfolding broken_from
  broken_starts = rw (rest_all s count)

  module _ (from k : ℕ) (inside : k < count) where
    pub broken_here : hash_fits t list all from (hash_at s (sizes.hash * k)) ≡ false → broken_from from k ≡ k
    unfolding broken_from first_broken
    broken_here e = rw (rest_more s count k inside, e)

    pub broken_next : hash_fits t list all from (hash_at s (sizes.hash * k)) ≡ true → (row : ℕ) → row ≡ row_number t (hash_at s (sizes.hash * k))
        → broken_from from k ≡ broken_from (row + 1) (k + 1)
    unfolding broken_from first_broken
    broken_next e row at = rw (rest_more s count k inside, e, ← at, add-one k, add-one row)

  pub broken_done : (from k : ℕ) → k ≤ count → count ≤ k → broken_from from k ≡ count
  unfolding broken_from first_broken
  broken_done from k h l = rw (rest_none s count k l) (omega arith)

-- ---- the sum

module _ (t : List Row) (rowSizes s : List ℕ) (count : ℕ) where
  pub sum_left : ℕ → ℕ → Bool
  sum_left k left = leb (size_sum t rowSizes (pick_rest s count k)) left

  pub sum_starts : (budget : ℕ) → sum_left 0 budget ≡ leb (size_sum t rowSizes (hashes_at s 0 count)) budget
  unfolding sum_left
  sum_starts budget = rw (rest_all s count)

  module _ (k left row : ℕ) (inside : k < count) (at : row ≡ row_number t (hash_at s (sizes.hash * k))) where
    pub sum_over : left < get_or rowSizes row 0 → sum_left k left ≡ false
    unfolding sum_left size_sum
    sum_over h = rw (rest_more s count k inside, ← at) (past (get_or rowSizes row 0) (size_sum t rowSizes (pick_rest s count (k + 1))) left h)
      where
        past : (a b c : ℕ) → c < a → leb (a + b) c ≡ false
        past a b c h = split (leb (a + b) c) (λ x. absurd (let z = leb-true (a + b) c x in omega arith)) (λ x. x)

    pub sum_next : get_or rowSizes row 0 ≤ left → sum_left k left ≡ sum_left (k + 1) (left - get_or rowSizes row 0)
    unfolding sum_left size_sum
    sum_next h = rw (rest_more s count k inside, ← at) (less (get_or rowSizes row 0) (size_sum t rowSizes (pick_rest s count (k + 1))) left h)
      where
        less : (a b c : ℕ) → a ≤ c → leb (a + b) c ≡ leb b (c - a)
        less a b c h =
            same_truth (leb (a + b) c) (leb b (c - a))
            (λ x. le-leb b (c - a) (let z = leb-true (a + b) c x in omega arith))
            (λ x. le-leb (a + b) c (let z = leb-true b (c - a) x in omega arith))

  pub sum_done : (k left : ℕ) → count ≤ k → sum_left k left ≡ true
  unfolding sum_left size_sum
  sum_done k left h = rw (rest_none s count k h) (le-leb 0 left (omega arith))

-- a pick whose hashes are rows, hash by hash
module _ (t : List Row) (s : List ℕ) (count k : ℕ) (inside : k < count) (ours : every (held t) (pick_rest s count k) ≡ true) where
  rows_both : (held t (hash_at s (sizes.hash * k)) ≡ true) × (every (held t) (pick_rest s count (k + 1)) ≡ true)
  unfolding every
  rows_both = both _ _ (rw (rest_more s count k inside) at ours)

  pub row_inside : row_number t (hash_at s (sizes.hash * k)) < length t
  row_inside = row_of_held t _ rows_both.0

  pub rows_next : every (held t) (pick_rest s count (k + 1)) ≡ true
  rows_next = rows_both.1
