-- A list from one of its hashes on, and what is found there: each law is one turn of a loop, with its test as a hypothesis.
use Prim.Native.Nat.{ℕ, suc, ◌+◌, ◌-◌, ◌*◌, ◌≤◌, ◌<◌}
use mathlib.Core.Bool.{Bool, true, false}
use mathlib.Core.List.{List, [], ◌∷◌}
use mathlib.Core.Path.{◌≡◌, ◌∙◌}
use native.Mathlib.Omega.{arith}
use lib.Dec.{eqb}
use lib.ListN.{length}
use Rattle.hash_order.specs.Order.{member, every}
use Rattle.rules.specs.Hash.{hash_at, hashes_at}
use Rattle.rules.specs.Sizes.{sizes}
use Rattle.table.proofs.TableLaws.{member_of_index, unknown_of_index, index_at_most, length_rows, length_rows_at}
use Rattle.table.specs.TableBytes.{rows_at}
use Rattle.table.specs.Table.{rows, index_in, held}

-- ---- a list from number k on

module _ (s : List ℕ) (place count : ℕ) where
  unfoldable pub onward : ℕ → List ℕ
  onward k = hashes_at s (place + sizes.hash * k) (count - k)

  pub onward_starts : onward 0 ≡ hashes_at s place count
  unfolding onward
  onward_starts =
      let d : count - 0 ≡ count = omega arith in
      let p : place + sizes.hash * 0 ≡ place = omega arith in
      rw (d, p)

  pub onward_first : (k : ℕ) → k < count → onward k ≡ hash_at s (place + sizes.hash * k) ∷ onward (k + 1)
  unfolding onward hashes_at
  onward_first k h =
      let d : count - k ≡ suc (count - (k + 1)) = omega arith in
      let p : place + sizes.hash * (k + 1) ≡ place + sizes.hash * k + sizes.hash = omega arith in
      rw (d, p)

  pub onward_ends : (k : ℕ) → count ≤ k → onward k ≡ []
  unfolding onward hashes_at
  onward_ends k h =
      let d : count - k ≡ 0 = omega arith in
      rw d

-- ---- whether it has a hash

module _ (h : ℕ) (s : List ℕ) (place count : ℕ) where
  pub seek_starts : member h (onward s place count 0) ≡ member h (hashes_at s place count)
  seek_starts = rw (onward_starts s place count)

  pub seek_here : (k : ℕ) → k < count → eqb h (hash_at s (place + sizes.hash * k)) ≡ true → member h (onward s place count k) ≡ true
  unfolding member
  seek_here k l e = rw (onward_first s place count k l, e)

  pub seek_on : (k : ℕ) → k < count → eqb h (hash_at s (place + sizes.hash * k)) ≡ false
      → member h (onward s place count k) ≡ member h (onward s place count (k + 1))
  unfolding member
  seek_on k l e = rw (onward_first s place count k l, e)

  pub seek_ends : (k : ℕ) → count ≤ k → member h (onward s place count k) ≡ false
  unfolding member
  seek_ends k l = rw (onward_ends s place count k l)

-- ---- whether every one passes a test

module _ (p : ℕ → Bool) (s : List ℕ) (place count : ℕ) where
  pub test_starts : every p (onward s place count 0) ≡ every p (hashes_at s place count)
  test_starts = rw (onward_starts s place count)

  pub test_fails : (k : ℕ) → k < count → p (hash_at s (place + sizes.hash * k)) ≡ false → every p (onward s place count k) ≡ false
  unfolding every
  test_fails k l e = rw (onward_first s place count k l, e)

  pub test_on : (k : ℕ) → k < count → p (hash_at s (place + sizes.hash * k)) ≡ true
      → every p (onward s place count k) ≡ every p (onward s place count (k + 1))
  unfolding every
  test_on k l e = rw (onward_first s place count k l, e)

  pub test_ends : (k : ℕ) → count ≤ k → every p (onward s place count k) ≡ true
  unfolding every
  test_ends k l = rw (onward_ends s place count k l)

-- ---- the row of a hash tells whether it is held

module _ (table : List ℕ) (n h r : ℕ) (found : r ≡ index_in (rows (rows_at table 0 n)) h) where
  long : length (rows (rows_at table 0 n)) ≡ n
  long = length_rows (rows_at table 0 n) ∙ length_rows_at table 0 n

  pub found_held : r < n → held (rows_at table 0 n) h ≡ true
  unfolding held
  found_held l = member_of_index (rows (rows_at table 0 n)) h (omega (arith, long))

  pub found_unknown : n ≤ r → held (rows_at table 0 n) h ≡ false
  unfolding held
  found_unknown l = unknown_of_index (rows (rows_at table 0 n)) h (omega (arith, long, index_at_most (rows (rows_at table 0 n)) h))
