-- The last rule over marks: some hash would make a pick by itself just if some row would go where none is picked. Assumes nothing.
use Prim.Native.Nat.{ℕ, ◌+◌, ◌≤◌, ◌<◌}
use mathlib.Core.Bool.{Bool, true, false, not, ◌&&◌, ◌||◌}
use mathlib.Core.List.{List, [], ◌∷◌}
use mathlib.Core.Path.{◌≡◌, refl, sym, ap, subst, ◌∙◌}
use native.Mathlib.Omega.{arith}
use borrow.Author.Tests.{leb-true, not-true}
use lib.Dec.{leb}
use lib.ListN.{length, get_or}
use Rattle.hash_order.proofs.KeepLaws.{every_member, every_one}
use Rattle.hash_order.proofs.OrderLaws.{member_none}
use Rattle.hash_order.proofs.ReachLaws.{below_suc}
use Rattle.hash_order.specs.Order.{member, every}
use Rattle.rules.proofs.Cases.{split, both, true_false, either}
use Rattle.table.proofs.TableLaws.{held_row, number_of_row, row_of_held, hash_of_held, length_rows_at}
use Rattle.table.specs.Table.{Row, GoodTable, hash_of, row_number, deps}
use Rattle.table.specs.TableBytes.{rows_at, GoodRows}
use Rattle.table_graph.specs.Internal.Marks.{Blank}
use Rattle.pick.specs.Internal.PickMarks.{RowMarks, row_goes}
use Rattle.pick.specs.Picking.{goes_with, pick_fits, empty_allowed, goes_now}
use Rattle.pick.proofs.AcceptLaws.{fits_has, single_fits, single_sound}
use Rattle.pick.proofs.GoesLaws.{row_goes_lem}
use Rattle.pick.proofs.PlannerLaws.{alone_goes}

module _ (t : List Row) (good : GoodTable t) (list rowSizes : List ℕ) (budget : ℕ) where
  -- a row that goes is a pick by itself
  goes_fits : (i : ℕ) → i < length t → goes_now t list rowSizes budget [] i ≡ true → pick_fits t list rowSizes budget (hash_of t i ∷ []) ≡ true
  unfolding goes_now goes_with
  goes_fits i l e =
      let h : ℕ = hash_of t i in
      let a = both (member h list) (every (λ d. not (member d list) || member d []) (deps t h) && leb (get_or rowSizes i 0) budget) e in
      let b = both (every (λ d. not (member d list) || member d []) (deps t h)) (leb (get_or rowSizes i 0) budget) a.1 in
      let at : row_number t h ≡ i = number_of_row t good i l in
      let size : get_or rowSizes (row_number t h) 0 ≡ get_or rowSizes i 0 = ap (λ (x : ℕ). get_or rowSizes x 0) at in
      single_fits t list rowSizes budget h (held_row t i l) a.0
      (λ d m.
      either (not (member d list)) (member d []) (every_member (λ d. not (member d list) || member d []) (deps t h) b.0 d m)
      (λ k. not-true (member d list) k)
      (λ k. absurd (member_none d k)))
      (let z = leb-true (get_or rowSizes i 0) budget b.1 in omega arith)

  listed_there : (i : ℕ) → goes_now t list rowSizes budget [] i ≡ true → member (hash_of t i) list ≡ true
  unfolding goes_now
  listed_there i e = (both _ _ e).0

  pub one_goes : (i : ℕ) → i < length t → goes_now t list rowSizes budget [] i ≡ true → true ≡ not (empty_allowed t list rowSizes budget)
  unfolding empty_allowed
  one_goes i l e =
      split (every (λ h. not (pick_fits t list rowSizes budget (h ∷ []))) list)
      (λ x.
      absurd (true_false (pick_fits t list rowSizes budget (hash_of t i ∷ [])) (goes_fits i l e)
      (not-true _ (every_member (λ h. not (pick_fits t list rowSizes budget (h ∷ []))) list x (hash_of t i) (listed_there i e)))))
      (λ x. sym (ap not x))

  pub none_goes : ((i : ℕ) → i < length t → goes_now t list rowSizes budget [] i ≡ false) → false ≡ not (empty_allowed t list rowSizes budget)
  unfolding empty_allowed
  none_goes stays =
      sym (ap not
      (every_one (λ h. not (pick_fits t list rowSizes budget (h ∷ []))) list
      (λ h m.
      split (pick_fits t list rowSizes budget (h ∷ []))
      (λ x.
      let f = fits_has t list (h ∷ []) 0 h (single_sound t list rowSizes budget h x) in
      let l = row_of_held t h f.held_there in
      let own : pick_fits t list rowSizes budget (hash_of t (row_number t h) ∷ []) ≡ true =
      subst (λ g. pick_fits t list rowSizes budget (g ∷ []) ≡ true) (sym (hash_of_held t h f.held_there)) x in
      absurd (true_false (goes_now t list rowSizes budget [] (row_number t h))
      (alone_goes t list rowSizes budget good (row_number t h) budget l refl own)
      (stays (row_number t h) l)))
      (λ x. ap not x))))

-- ---- row by row, over marks

module _ (s : List ℕ) (n : ℕ) (rowSizes : List ℕ) (budget : ℕ) (listed : List Bool) where
  -- no row before row i goes, whatever list the marks are of
  pub NoneGoes : ℕ → Type 0
  NoneGoes i = (list : List ℕ) → RowMarks s n list listed → (j : ℕ) → j < i → goes_now (rows_at s 0 n) list rowSizes budget [] j ≡ false

  pub none_starts : NoneGoes 0
  unfolding NoneGoes
  none_starts list marks j h = absurd (omega arith)

module _ (s : List ℕ) (n : ℕ) (g : GoodRows s n) (rowSizes : List ℕ) (budget : ℕ) (listed none : List Bool) (blank : Blank n none) where
  tells : (i : ℕ) → i < n → (list : List ℕ) → RowMarks s n list listed
      → row_goes s listed none (get_or rowSizes i 0) budget i ≡ goes_now (rows_at s 0 n) list rowSizes budget [] i
  unfolding member
  tells i h list marks = row_goes_lem s n g list listed marks [] none i h before rowSizes (get_or rowSizes i 0) budget refl
    where
      before : (k : ℕ) → k < i → get_or none k false ≡ member (hash_of (rows_at s 0 n) k) []
      before k l = blank.each k (omega arith)

  module _ (i : ℕ) (inside : i < n) where
    pub none_next : row_goes s listed none (get_or rowSizes i 0) budget i ≡ false → NoneGoes s n rowSizes budget listed i
        → NoneGoes s n rowSizes budget listed (i + 1)
    unfolding NoneGoes
    none_next e before list marks j h =
        below_suc (λ j. goes_now (rows_at s 0 n) list rowSizes budget [] j ≡ false) i (before list marks) (sym (tells i inside list marks) ∙ e) j
        (omega arith)

    pub row_alone : row_goes s listed none (get_or rowSizes i 0) budget i ≡ true → (list : List ℕ) → RowMarks s n list listed
        → true ≡ not (empty_allowed (rows_at s 0 n) list rowSizes budget)
    row_alone e list marks =
        one_goes (rows_at s 0 n) g.good list rowSizes budget i (rw (length_rows_at s 0 n) inside) (sym (tells i inside list marks) ∙ e)

  pub none_alone : (i : ℕ) → n ≤ i → NoneGoes s n rowSizes budget listed i
      → (list : List ℕ) → RowMarks s n list listed → false ≡ not (empty_allowed (rows_at s 0 n) list rowSizes budget)
  unfolding NoneGoes
  none_alone i h before list marks =
      none_goes (rows_at s 0 n) g.good list rowSizes budget (λ j l. before list marks j (let z = length_rows_at s 0 n in omega arith))
