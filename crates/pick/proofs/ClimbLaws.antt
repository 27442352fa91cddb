-- A pick that is accepted is its marked rows, in table order: its row numbers climb. Assumes nothing.
use Prim.Native.Nat.{ℕ, suc, ◌≤◌, ◌<◌}
use mathlib.Core.Bool.{Bool, true, false}
use mathlib.Core.List.{List, [], ◌∷◌}
use mathlib.Core.Path.{◌≡◌, refl, sym, ◌∙◌}
use native.Mathlib.Nat.{zero-add}
use native.Mathlib.Omega.{arith}
use borrow.Author.Tests.{eqb-true, eqb-false}
use lib.Dec.{eqb}
use lib.ListN.{length}
use Rattle.hash_order.proofs.KeepLaws.{keep_same, keep_none, once_first, once_tail}
use Rattle.hash_order.proofs.OrderLaws.{member_here, member_there, member_behind, member_none}
use Rattle.hash_order.specs.Order.{member, keep, Once}
use Rattle.pick.proofs.AcceptLaws.{AllFits, accepts, fits_listed, fits_parts}
use Rattle.pick.specs.Picking.{pick_checked}
use Rattle.rules.proofs.Cases.{split, true_false, same_truth}
use Rattle.table.proofs.TableLaws.{index_of_member, member_of_index, length_rows}
use Rattle.table.specs.Table.{Row, GoodTable, rows, hash_of, row_number, held, index_in}
use Rattle.table_graph.proofs.PickLaws.{pick_keep, marks_picked}
use Rattle.table_graph.specs.Internal.Marks.{Marks, picked}
use Rattle.std.specs.Prelude.{Ok}

-- The places of numbers in a list climb from a place on.
pub data Climbs (l : List ℕ) : ℕ → List ℕ → Type 0 where
  none : {from : ℕ} → Climbs l from []
  more : {from h : ℕ} {hs : List ℕ} → from ≤ index_in l h → index_in l h < length l → Climbs l (suc (index_in l h)) hs → Climbs l from (h ∷ hs)

climbs_tail : (x : ℕ) (xs : List ℕ) (from : ℕ) (hs : List ℕ) → Climbs (x ∷ xs) (suc from) hs → Climbs xs from hs
unfolding index_in
climbs_tail x xs from [] Climbs.none = Climbs.none
climbs_tail x xs from (h ∷ hs) (Climbs.more a b c) =
    split (eqb x h)
    (λ e. absurd (let z = rw e at a in omega (arith, z)))
    (λ e.
    let a' = rw e at a in
    let b' = rw e at b in
    let c' = rw e at c in
    Climbs.more (omega (arith, a')) (omega (arith, b')) (climbs_tail x xs (suc (index_in xs h)) hs c'))

climbs_in : (l : List ℕ) (from : ℕ) (hs : List ℕ) → Climbs l from hs → (y : ℕ) → member y hs ≡ true → member y l ≡ true
climbs_in l from [] Climbs.none y m = absurd (member_none y m)
climbs_in l from (h ∷ hs) (Climbs.more a b c) y m =
    split (eqb y h)
    (λ e. rw (eqb-true y h e) (member_of_index l h b))
    (λ e. climbs_in l (suc (index_in l h)) hs c y (member_behind y h hs m (eqb-false y h e)))

none_kept : (l : List ℕ) → keep (λ y. member y []) l ≡ []
unfolding member
none_kept l = keep_none (λ y. member y []) l (λ y m. refl)

-- so they are just what is kept of the list
climb_keep : (l hs : List ℕ) → Once l → Climbs l 0 hs → keep (λ y. member y hs) l ≡ hs
unfolding keep index_in
climb_keep [] [] once c = refl
climb_keep [] (h ∷ hs) once (Climbs.more a b c) = absurd (omega (arith, b))
climb_keep (x ∷ xs) [] once c = none_kept (x ∷ xs)
climb_keep (x ∷ xs) (h ∷ hs) once (Climbs.more a b c) =
    split (eqb x h)
    (λ e.
    let is : x ≡ h = eqb-true x h e in
    let rest : Climbs xs 0 hs = climbs_tail x xs 0 hs (rw e at c) in
    let others : keep (λ y. member y (h ∷ hs)) xs ≡ keep (λ y. member y hs) xs =
    keep_same (λ y. member y (h ∷ hs)) (λ y. member y hs) xs
    (λ y m.
    same_truth (member y (h ∷ hs)) (member y hs)
    (λ k. member_behind y h hs k (λ q. true_false (member y xs) m (rw (q ∙ sym is) (once_first x xs once))))
    (λ k. member_there y h hs k)) in
    rw (is, member_here h hs, others, climb_keep xs hs (once_tail x xs once) rest))
    (λ e.
    let rest : Climbs xs 0 (h ∷ hs) = climbs_tail x xs 0 (h ∷ hs) (Climbs.more (rw e (omega arith)) b c) in
    let out : member x (h ∷ hs) ≡ false =
    split (member x (h ∷ hs)) (λ m. absurd (true_false (member x xs) (climbs_in xs 0 (h ∷ hs) rest x m) (once_first x xs once))) (λ m. m) in
    rw out (climb_keep xs (h ∷ hs) (once_tail x xs once) rest))

-- ---- a pick

module _ (t : List Row) (list rowSizes : List ℕ) (budget : ℕ) (pick : List ℕ) where
  climbs_of : (from : ℕ) (hs : List ℕ) → AllFits t list pick from hs → Climbs (rows t) from hs
  unfolding AllFits row_number held
  climbs_of from [] e = Climbs.none
  climbs_of from (h ∷ hs) e = Climbs.more e.0.behind (index_of_member (rows t) h e.0.held_there) (climbs_of (suc (row_number t h)) hs e.1)

  -- each of its hashes is a row
  pub accepted_held : pick_checked t list rowSizes budget pick ≡ Ok tt → (h : ℕ) → member h pick ≡ true → held t h ≡ true
  accepted_held e h m = (fits_parts t list pick 0 pick (accepts t list rowSizes budget pick e).fits h m).0

  -- and in the list
  pub accepted_listed : pick_checked t list rowSizes budget pick ≡ Ok tt → (h : ℕ) → member h pick ≡ true → member h list ≡ true
  accepted_listed e = fits_listed t list pick 0 pick (accepts t list rowSizes budget pick e).fits

  -- and the marked rows are the pick
  pub accepted_rows : GoodTable t → pick_checked t list rowSizes budget pick ≡ Ok tt
      → (m : List Bool) → Marks (length t) m (λ i. member (hash_of t i) pick)
      → picked (rows t) m ≡ pick
  unfolding hash_of
  accepted_rows good e m k =
      marks_picked (rows t) m (λ i. member (hash_of t i) pick) (rw (length_rows t) k)
      ∙ pick_keep (rows t) (λ i. member (hash_of t i) pick) (λ y. member y pick) 0 (λ i l. rw zero-add refl)
      ∙ climb_keep (rows t) pick good.once (climbs_of 0 pick (accepts t list rowSizes budget pick e).fits)
