-- A table and an index that fits it: it is the table's index, no hash stands twice, and looking a hash up by it finds what the scan finds.
use Prim.Native.Nat.{ℕ, ◌<◌}
use mathlib.Core.Bool.{true, false, cond, ◌&&◌}
use mathlib.Core.List.{List, map}
use mathlib.Core.Path.{◌≡◌, refl, sym, ◌∙◌}
use native.Mathlib.Omega.{arith}
use borrow.Author.Tests.{ltb-true, ltb-false, eqb-true, eqb-false}
use lib.Dec.{ltb, eqb}
use lib.ListN.{length, get_or, length-map}
use Rattle.hash_order.proofs.KeepLaws.{often_none, often_some, once_index, index_once}
use Rattle.hash_order.proofs.OrderLaws.{index_member, member_index}
use Rattle.hash_order.specs.Order.{member, often, place_of}
use Rattle.rules.proofs.Cases.{split, true_false}
use Rattle.table.proofs.TableLaws.{length_rows, index_of_entry, index_of_unknown}
use Rattle.table.specs.Table.{Row, rows, hash_of, index_in, GoodTable}
use Rattle.table_index.specs.Index.{index_of, fits}
use Rattle.table_index.proofs.ListLaws.{map_index, map_member, sorted_once, place_unknown}
use Rattle.table_index.proofs.IndexLaws.{FittingNumbers, Apart, fits_has, each_named, hashes_once, index_fits_lem, fits_is}

module _ (t : List Row) where
  -- a table with no hash twice has an index that fits
  pub apart_fits : Apart (hash_of t) (length t) → fits t (index_of t) ≡ true
  unfolding fits index_of
  apart_fits once = index_fits_lem (hash_of t) (length t) once

  pub good_fits : GoodTable t → fits t (index_of t) ≡ true
  unfolding hash_of
  good_fits g =
      apart_fits (λ i j b c e. once_index (rows t) g.once i j (omega (arith, length_rows t)) (omega (arith, length_rows t)) e)

module _ (t : List Row) (l : List ℕ) (ok : fits t l ≡ true) where
  pub has : FittingNumbers (hash_of t) (length t) l
  unfolding fits
  has = fits_has (hash_of t) (length t) l ok

  -- what fits is the index
  pub fits_is_index : l ≡ index_of t
  unfolding fits index_of
  fits_is_index = fits_is (hash_of t) (length t) l ok

  pub row_named : (i : ℕ) → i < length t → member i l ≡ true
  row_named = each_named (hash_of t) (length t) l has

  -- each row once, and nothing else
  pub fits_names_each_once : (i : ℕ) → often i l ≡ cond (ltb i (length t)) 1 0
  fits_names_each_once i =
      split (ltb i (length t))
      (λ e. rw e (omega (arith, sorted_once (hash_of t) l has.order i, often_some i l (row_named i (ltb-true i (length t) e)))))
      (λ e.
      let gone : member i l ≡ false =
      split (member i l) (λ m. absurd (omega (arith, has.below i m, ltb-false i (length t) e))) (λ d. d)
      in
      rw e (often_none i l gone))

  -- and shows that no hash stands twice
  pub hash_once : Apart (hash_of t) (length t)
  hash_once = hashes_once (hash_of t) (length t) l has

  -- looked up: the row at the hash's place has it, or no row has it
  pub look_found : (h k r : ℕ) → k < length t → r ≡ get_or l k 0 → hash_of t r ≡ h → r ≡ index_in (rows t) h
  unfolding hash_of
  look_found h k r b is e =
      let low : r < length t = rw is (has.below (get_or l k 0) (index_member l k (omega (arith, has.long)))) in
      let inside : r < length (rows t) = omega (arith, length_rows t) in
      rw (← e)
      (sym
      (index_of_entry (rows t)
      (index_once (rows t) (λ i j bi bj q. hash_once i j (omega (arith, length_rows t)) (omega (arith, length_rows t)) q))
      r
      inside))

  pub look_none : (h k : ℕ) → k ≡ place_of h (map (hash_of t) l) → (k < length t → hash_of t (get_or l k 0) ≡ h → ⊥) → length t ≡ index_in (rows t) h
  unfolding hash_of
  look_none h k is other =
      let long : length (map (hash_of t) l) ≡ length t = length-map l (hash_of t) ∙ has.long in
      let gone : member h (map (hash_of t) l) ≡ false =
      place_unknown (map (hash_of t) l) h has.order
      (rw (← is) (λ b e. other (omega arith) (sym (map_index (hash_of t) l k (omega (arith, has.long))) ∙ e)))
      in
      let none : member h (rows t) ≡ false =
      split (member h (rows t))
      (λ m.
      let r = row_of m in
      absurd (true_false (member h (map (hash_of t) l)) (rw r.2 at (map_member (hash_of t) l r.0 (row_named r.0 r.1))) gone))
      (λ e. e)
      in
      sym (index_of_unknown (rows t) h none ∙ length_rows t)
    where
      row_of : member h (rows t) ≡ true → (i : ℕ) × (i < length t) × (hash_of t i ≡ h)
      row_of m = let r = member_index h (rows t) m in (r.0, omega (arith, r.1, length_rows t), r.2)

-- what halving finds: the row named at a hash's place if it has that hash, else the number of rows
unfoldable pub looked_up : List Row → List ℕ → ℕ → ℕ
looked_up t l h =
    cond (ltb (place_of h (map (hash_of t) l)) (length t) && eqb (hash_of t (get_or l (place_of h (map (hash_of t) l)) 0)) h)
    (get_or l (place_of h (map (hash_of t) l)) 0)
    (length t)

-- is what the scan finds, found or not
pub looked_up_is_scanned : (t : List Row) (l : List ℕ) → fits t l ≡ true → (h : ℕ) → looked_up t l h ≡ index_in (rows t) h
unfolding looked_up
looked_up_is_scanned t l ok h =
    let k : ℕ = place_of h (map (hash_of t) l) in
    split (ltb (place_of h (map (hash_of t) l)) (length t))
    (λ b.
    split (eqb (hash_of t (get_or l (place_of h (map (hash_of t) l)) 0)) h)
    (λ e. rw (b, e) (look_found t l ok h k (get_or l k 0) (ltb-true k (length t) b) refl (eqb-true (hash_of t (get_or l k 0)) h e)))
    (λ e. rw (b, e) (look_none t l ok h k refl (λ c. eqb-false (hash_of t (get_or l k 0)) h e))))
    (λ b. rw b (look_none t l ok h k refl (λ c e. omega (arith, ltb-false k (length t) b, c))))

-- for a table with no hash twice: the index fits, and nothing else does
pub fits_exactly : (t : List Row) (l : List ℕ) → Apart (hash_of t) (length t) → (fits t l ≡ true → l ≡ index_of t) × (l ≡ index_of t → fits t l ≡ true)
fits_exactly t l once = (fits_is_index t l, λ e. rw e (apart_fits t once))
