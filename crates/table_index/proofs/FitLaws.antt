-- The check of an index, entry by entry: each law is one turn of the loop, with its tests as hypotheses.
use Prim.Native.Nat.{ℕ, suc, ◌+◌, ◌-◌, ◌*◌, ◌≤◌, ◌<◌}
use mathlib.Core.Bool.{Bool, true, false, ◌&&◌}
use mathlib.Core.List.{List, [], ◌∷◌, map}
use mathlib.Core.Path.{◌≡◌, refl, sym, ap, ◌∙◌}
use native.Mathlib.Omega.{arith}
use borrow.Author.Tests.{lt-ltb, le-ltb, eq-eqb, ne_eqb, eqb-true}
use lib.Dec.{ltb, eqb}
use lib.ListN.{length}
use Rattle.hash_order.specs.Order.{every, ascends}
use Rattle.rules.proofs.Cases.{split, both}
use Rattle.rules.specs.Hash.{hash_at}
use Rattle.rules.specs.LittleEndian.{u16_at}
use Rattle.table.proofs.TableLaws.{length_rows_at, hash_of_row}
use Rattle.table.specs.TableBytes.{u16s_at, row_size, rows_at}
use Rattle.table.specs.Table.{hash_of}
use Rattle.table_index.specs.Index.{fits_by, fits, index_fits}
use Rattle.table_index.proofs.ByteLaws.{length_u16s, u16s_next, u16s_none}

-- the entries behind one that is below n
unfoldable pub chain : (ℕ → ℕ) → ℕ → ℕ → List ℕ → Bool
chain f n last [] = true
chain f n last (x ∷ xs) = ltb x n && (ltb (f last) (f x) && chain f n x xs)

and_swap : (x y z : Bool) → (x && (y && z)) ≡ (y && (x && z))
and_swap true true z = refl
and_swap true false z = refl
and_swap false true z = refl
and_swap false false z = refl

pub chain_is : (f : ℕ → ℕ) (n x : ℕ) (xs : List ℕ) → chain f n x xs ≡ (every (λ i. ltb i n) xs && ascends (map f (x ∷ xs)))
unfolding chain every ascends
chain_is f n x [] = refl
chain_is f n x (y ∷ ys) =
    split (ltb y n)
    (λ e. rw (e, chain_is f n y ys) (and_swap (ltb (f x) (f y)) (every (λ i. ltb i n) ys) (ascends (map f (y ∷ ys)))))
    (λ e. rw e)

module _ (s l : List ℕ) (n : ℕ) where
  -- what the entries from the i-th on say, behind an entry
  unfoldable pub chaining : ℕ → ℕ → Bool
  chaining last i = chain (hash_of (rows_at s 0 n)) n last (u16s_at l (2 * i) (n - i))

  fits_parts : fits (rows_at s 0 n) (u16s_at l 0 n) ≡ (every (λ i. ltb i n) (u16s_at l 0 n) && ascends (map (hash_of (rows_at s 0 n)) (u16s_at l 0 n)))
  unfolding fits fits_by
  fits_parts = rw (length_rows_at s 0 n, eq-eqb (length (u16s_at l 0 n)) n (length_u16s l 0 n))

  pub chain_none : n ≡ 0 → fits (rows_at s 0 n) (u16s_at l 0 n) ≡ true
  unfolding u16s_at every ascends
  chain_none e = fits_parts ∙ rw e

  module _ (first : ℕ) (some : 0 < n) (read : first ≡ u16_at l 0) where
    left : n ≡ suc (n - 1)
    left = omega arith

    parts : u16s_at l 0 n ≡ first ∷ u16s_at l 2 (n - 1)
    unfolding u16s_at
    parts = ap (u16s_at l 0) left ∙ rw read

    pub chain_high : n ≤ first → fits (rows_at s 0 n) (u16s_at l 0 n) ≡ false
    unfolding every
    chain_high h = fits_parts ∙ rw (parts, le-ltb first n h)

    pub chain_starts : first < n → chaining first 1 ≡ fits (rows_at s 0 n) (u16s_at l 0 n)
    unfolding chaining every
    chain_starts h =
        chain_is (hash_of (rows_at s 0 n)) n first (u16s_at l 2 (n - 1)) ∙ sym (fits_parts ∙ rw (parts, lt-ltb first n h))

  module _ (last i r : ℕ) (low : last < n) (inside : i < n) (read : r ≡ u16_at l (2 * i)) where
    next : u16s_at l (2 * i) (n - i) ≡ r ∷ u16s_at l (2 * (i + 1)) (n - (i + 1))
    next = u16s_next l n i r inside read

    pub chain_past : n ≤ r → chaining last i ≡ false
    unfolding chaining chain
    chain_past h = rw (next, le-ltb r n h)

    module _ (below : r < n) where
      test : ltb (hash_at s (last * row_size)) (hash_at s (r * row_size)) ≡ ltb (hash_of (rows_at s 0 n) last) (hash_of (rows_at s 0 n) r)
      test = rw (hash_of_row s n last low, hash_of_row s n r below)

      pub chain_falls : ltb (hash_at s (last * row_size)) (hash_at s (r * row_size)) ≡ false → chaining last i ≡ false
      unfolding chaining chain
      chain_falls e = rw (next, lt-ltb r n below, ← test, e)

      pub chain_on : ltb (hash_at s (last * row_size)) (hash_at s (r * row_size)) ≡ true → chaining last i ≡ chaining r (i + 1)
      unfolding chaining chain
      chain_on e = rw (next, lt-ltb r n below, ← test, e)

  pub chain_ends : (last i : ℕ) → n ≤ i → chaining last i ≡ true
  unfolding chaining chain
  chain_ends last i h = rw (u16s_none l n i h)

-- ---- its bytes

module _ (s l : List ℕ) (n : ℕ) where
  pub index_odd : (length l ≡ 2 * n → ⊥) → index_fits (rows_at s 0 n) l ≡ false
  unfolding index_fits
  index_odd h = rw (length_rows_at s 0 n, ne_eqb (length l) (2 * n) h)

  pub index_even : length l ≡ 2 * n → index_fits (rows_at s 0 n) l ≡ fits (rows_at s 0 n) (u16s_at l 0 n)
  unfolding index_fits
  index_even h = rw (length_rows_at s 0 n, eq-eqb (length l) (2 * n) h)

  -- what a caller has of it
  pub index_fitting : index_fits (rows_at s 0 n) l ≡ true → (length l ≡ 2 * n) × (fits (rows_at s 0 n) (u16s_at l 0 n) ≡ true)
  unfolding index_fits
  index_fitting e =
      let p = both (eqb (length l) (2 * length (rows_at s 0 n))) (fits (rows_at s 0 n) (u16s_at l 0 (length (rows_at s 0 n)))) e in
      let long = length_rows_at s 0 n in
      (eqb-true (length l) (2 * n) (rw long at p.0), rw long at p.1)
