-- What marks say of a row is what the hashes say: a row's numbers are gone through one after the other, each is a row before it, and its mark tells whether
-- its hash stands in the list. Assumes nothing.
use Prim.Native.Nat.{ℕ, zero, suc, ◌+◌, ◌≤◌, ◌<◌}
use mathlib.Core.Bool.{Bool, true, false, not, ◌&&◌, ◌||◌}
use mathlib.Core.List.{List, map}
use mathlib.Core.Path.{◌≡◌, refl, sym, ap, ◌∙◌}
use native.Mathlib.Omega.{arith}
use borrow.Author.Tests.{lt-ltb, le-ltb, leb-true}
use lib.Dec.{leb}
use lib.ListN.{length, get_or, drop}
use Rattle.hash_order.proofs.KeepLaws.{every_member, every_one}
use Rattle.hash_order.specs.Order.{member, every}
use Rattle.rules.proofs.Cases.{split, both, same_truth}
use Rattle.rules.specs.Hash.{hashes_at}
use Rattle.rules.specs.LittleEndian.{u16_at}
use Rattle.table.proofs.GoodLaws.{good_down}
use Rattle.table.proofs.TableLaws.{
  length_rows,
  length_rows_at,
  deps_of_row,
  number_of_row,
  held_row,
  row_of_held,
  hash_of_held,
  index_of_unknown,
  number_place,
}
use Rattle.table.specs.Table.{Row, rows, hash_of, row_number, index_in, held, deps}
use Rattle.table.specs.TableBytes.{dep_count, used_at, rows_at, GoodRows}
use Rattle.table_graph.proofs.BelowLaws.{member_map, map_member}
use Rattle.table_graph.proofs.MarkLaws.{numbers_more, numbers_none}
use Rattle.table_graph.proofs.PickLaws.{rows_marked, rows_where_lem}
use Rattle.table_graph.specs.Internal.Marks.{Blank, picked}
use Rattle.pick.specs.Internal.PickMarks.{RowMarks, marked_go, row_may_go, row_goes}
use Rattle.pick.specs.Picking.{goes_with, hash_fits, goes_now}

-- ---- the numbers of a row, from the j-th on

pub go_from : List ℕ → ℕ → List Bool → List Bool → ℕ → Bool
go_from s i listed picks j = marked_go listed picks (drop j (used_at s i))

module _ (s : List ℕ) (i count : ℕ) (listed picks : List Bool) (c : count ≡ dep_count s i) where
  pub go_start : go_from s i listed picks 0 ≡ marked_go listed picks (used_at s i)
  unfolding go_from
  go_start = refl

  module _ (j k : ℕ) (inside : j < count) (read : k ≡ u16_at s (number_place i j)) where
    pub go_unlisted : get_or listed k false ≡ false → go_from s i listed picks j ≡ go_from s i listed picks (j + 1)
    unfolding go_from marked_go every
    go_unlisted e = rw (numbers_more s i count c j k inside read, e)

    pub go_picked : get_or listed k false ≡ true → get_or picks k false ≡ true → go_from s i listed picks j ≡ go_from s i listed picks (j + 1)
    unfolding go_from marked_go every
    go_picked e f = rw (numbers_more s i count c j k inside read, e, f)

    pub go_left : get_or listed k false ≡ true → get_or picks k false ≡ false → go_from s i listed picks j ≡ false
    unfolding go_from marked_go every
    go_left e f = rw (numbers_more s i count c j k inside read, e, f)

  pub go_done : (j : ℕ) → count ≤ j → go_from s i listed picks j ≡ true
  unfolding go_from marked_go every
  go_done j h = rw (numbers_none s i count c j h)

-- ---- the tests of a row, each as it comes

module _ (s : List ℕ) (n : ℕ) (listed picks : List Bool) (from row : ℕ) where
  pub fits_past : n ≤ row → false ≡ row_may_go s n listed picks from row
  unfolding row_may_go
  fits_past h = rw (le-ltb row n h)

  pub fits_unlisted : row < n → get_or listed row false ≡ false → false ≡ row_may_go s n listed picks from row
  unfolding row_may_go
  fits_unlisted h e = rw (lt-ltb row n h, e)

  module _ (inside : row < n) (e : get_or listed row false ≡ true) where
    pub fits_early : leb from row ≡ false → false ≡ row_may_go s n listed picks from row
    unfolding row_may_go
    fits_early f = rw (lt-ltb row n inside, e, f)

    pub fits_with : leb from row ≡ true → (r : Bool) → r ≡ marked_go listed picks (used_at s row) → r ≡ row_may_go s n listed picks from row
    unfolding row_may_go
    fits_with f r g = rw (lt-ltb row n inside, e, f, g)

module _ (s : List ℕ) (listed picks : List Bool) (size left i : ℕ) where
  pub goes_unlisted : get_or listed i false ≡ false → false ≡ row_goes s listed picks size left i
  unfolding row_goes
  goes_unlisted e = rw e

  module _ (e : get_or listed i false ≡ true) where
    and_false : (x y : Bool) → y ≡ false → false ≡ (x && y)
    and_false true y f = sym f
    and_false false y f = refl

    and_same : (x y : Bool) → y ≡ true → x ≡ (x && y)
    and_same true y f = sym f
    and_same false y f = refl

    pub goes_large : leb size left ≡ false → false ≡ row_goes s listed picks size left i
    unfolding row_goes
    goes_large f = rw e (and_false (marked_go listed picks (used_at s i)) (leb size left) f)

    pub goes_small : leb size left ≡ true → (r : Bool) → r ≡ marked_go listed picks (used_at s i) → r ≡ row_goes s listed picks size left i
    unfolding row_goes
    goes_small f r g = rw (e, g) (and_same (marked_go listed picks (used_at s i)) (leb size left) f)

  -- one that goes fits what is left
  pub goes_within : row_goes s listed picks size left i ≡ true → size ≤ left
  unfolding row_goes
  goes_within e = leb-true size left (both (marked_go listed picks (used_at s i)) (leb size left) (both (get_or listed i false) _ e).1).1

-- ---- rows and their hashes

every_hash : (f : ℕ → ℕ) (p q : ℕ → Bool) (l : List ℕ) → ((k : ℕ) → member k l ≡ true → p k ≡ q (f k)) → every p l ≡ every q (map f l)
every_hash f p q l e =
    same_truth (every p l) (every q (map f l))
    (λ h. every_one q (map f l) (λ g m. let w = map_member f l g m in ap q (sym w.is) ∙ sym (e w.k w.there) ∙ every_member p l h w.k w.there))
    (λ h. every_one p l (λ k m. e k m ∙ every_member q (map f l) h (f k) (member_map f l k m)))

pub number_is : (t : List Row) (h : ℕ) → index_in (rows t) h ≡ row_number t h
unfolding row_number
number_is t h = refl

unknown_row : (t : List Row) (h : ℕ) → held t h ≡ false → row_number t h ≡ length t
unfolding row_number held
unknown_row t h x = index_of_unknown (rows t) h x ∙ length_rows t

module _ (s : List ℕ) (n : ℕ) (g : GoodRows s n) where
  abbrev t : List Row
  t = rows_at s 0 n

  -- every marks are those of some list
  pub own_list : (m : List Bool) → RowMarks s n (picked (rows t) m) m
  own_list m =
      record {
        each =
            λ i h.
            let l : i < length t = rw (length_rows_at s 0 n) h in
            sym (ap (member (hash_of t i)) (rows_marked t m (λ k. get_or m k false) (record { each = λ k q. refl }))
            ∙ rows_where_lem t g.good (λ k. get_or m k false) (hash_of t i)
            ∙ rw (held_row t i l, number_of_row t g.good i l));
      }

  module _ (list : List ℕ) (listed : List Bool) (marks : RowMarks s n list listed) (pick : List ℕ) (picks : List Bool) where
    -- row i of the table, where the rows before it that are picked are marked
    module _ (i : ℕ) (inside : i < n) (before : (k : ℕ) → k < i → get_or picks k false ≡ member (hash_of t k) pick) where
      pub go_hashes : marked_go listed picks (used_at s i) ≡ goes_with t list pick (hash_of t i)
      unfolding marked_go goes_with deps
      go_hashes =
          let l : i < length t = rw (length_rows_at s 0 n) inside in
          rw (number_of_row t g.good i l, deps_of_row s n i inside)
          (every_hash (hash_of t) (λ k. not (get_or listed k false) || get_or picks k false) (λ d. not (member d list) || member d pick) (used_at s i)
          (λ k m.
          let down = good_down s n g i k inside m in
          rw (marks.each k (omega arith), before k down)))

      pub row_goes_lem : (rowSizes : List ℕ) (size left : ℕ) → size ≡ get_or rowSizes i 0 → row_goes s listed picks size left i ≡ goes_now t list rowSizes left pick i
      unfolding row_goes goes_now
      row_goes_lem rowSizes size left e = rw (marks.each i inside, go_hashes, e)

    -- a row that was looked up
    pub row_fits : RowMarks s n pick picks → (from h row : ℕ) → row ≡ index_in (rows t) h → row_may_go s n listed picks from row ≡ hash_fits t list pick from h
    unfolding row_may_go hash_fits
    row_fits those from h row e =
        let at : row ≡ row_number t h = e ∙ number_is t h in
        split (held t h)
        (λ x.
        let inside : row < n = let z = row_of_held t h x in let y = length_rows_at s 0 n in omega arith in
        let is : hash_of t row ≡ h = ap (hash_of t) at ∙ hash_of_held t h x in
        let mark : get_or listed row false ≡ member h list = marks.each row inside ∙ ap (λ (y : ℕ). member y list) is in
        let goes : marked_go listed picks (used_at s row) ≡ goes_with t list pick h =
        go_hashes row inside (λ k q. those.each k (omega arith)) ∙ ap (goes_with t list pick) is in
        rw (x, lt-ltb row n inside, mark, goes, ← at))
        (λ x.
        let past : n ≤ row = let z = unknown_row t h x in let y = length_rows_at s 0 n in omega arith in
        rw (x, le-ltb row n past))

-- ---- an empty pick marks nothing

pub none_picked : (s p : List ℕ) (n count : ℕ) (m : List Bool) → count ≤ 0 → RowMarks s n (hashes_at p 0 count) m → Blank n m
unfolding hashes_at member
none_picked s p n zero m h w = record { each = λ i l. w.each i l }
none_picked s p n (suc count) m h w = absurd (omega arith)
