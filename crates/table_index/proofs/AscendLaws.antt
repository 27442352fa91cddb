-- Rows that are chosen by number, in ascending order of hash: walking an index that fits keeps that order, and names the same rows.
use Prim.Native.Nat.{ℕ, zero, suc, ◌+◌, ◌<◌}
use mathlib.Core.Bool.{Bool, true}
use mathlib.Core.List.{List, [], ◌∷◌, map}
use mathlib.Core.Path.{◌≡◌, sym, ◌∙◌}
use native.Mathlib.Nat.{add-zero, zero-add, not-suc-le-zero}
use native.Mathlib.Omega.{arith}
use borrow.Author.Tests.{eqb-true, eqb-false}
use lib.Dec.{eqb}
use lib.ListN.{length}
use Rattle.hash_order.proofs.KeepLaws.{keep_member}
use Rattle.hash_order.proofs.OrderLaws.{member_here, member_there, member_behind, member_none, ascends_tail, ascends_first, ascends_cons, ascend_ascends, ascend_members, ascending_unique}
use Rattle.hash_order.specs.Order.{member, keep, ascends, ascend}
use Rattle.rules.proofs.Cases.{split, both, and_true, same_truth}
use Rattle.table.specs.Table.{Row, rows, hash_of, rows_from, rows_where}
use Rattle.table_index.specs.Index.{fits}
use Rattle.table_index.proofs.ListLaws.{map_member, member_map}
use Rattle.table_index.proofs.LookLaws.{has, row_named}

-- ---- the chosen rows by their numbers

module _ (p : ℕ → Bool) where
  chosen_row : (t : List Row) (i h : ℕ) → member h (rows_from i t p) ≡ true → (k : ℕ) × (k < length t) × (p (i + k) ≡ true) × (hash_of t k ≡ h)
  unfolding rows_from hash_of rows
  chosen_row [] i h m = absurd (member_none h m)
  chosen_row (r ∷ rs) i h m =
      let later : member h (rows_from (suc i) rs p) ≡ true → (k : ℕ) × (k < length (r ∷ rs)) × (p (i + k) ≡ true) × (hash_of (r ∷ rs) k ≡ h) =
      λ n.
      let c = chosen_row rs (suc i) h n in
      let e : i + suc c.0 ≡ suc i + c.0 = omega arith in
      (suc c.0, omega (arith, c.1), rw e c.2, c.3)
      in
      split (p i)
      (λ e.
      let m₂ : member h (r.hash ∷ rows_from (suc i) rs p) ≡ true = rw e at m in
      split (eqb h r.hash)
      (λ q. (0, omega arith, rw add-zero e, sym (eqb-true h r.hash q)))
      (λ q. later (member_behind h r.hash (rows_from (suc i) rs p) m₂ (eqb-false h r.hash q))))
      (λ e. later (rw e at m))

  row_chosen : (t : List Row) (i k : ℕ) → k < length t → p (i + k) ≡ true → member (hash_of t k) (rows_from i t p) ≡ true
  unfolding rows_from hash_of rows
  row_chosen [] i k b e = absurd (not-suc-le-zero b)
  row_chosen (r ∷ rs) i zero b e = rw (rw add-zero at e) (member_here r.hash (rows_from (suc i) rs p))
  row_chosen (r ∷ rs) i (suc k) b e =
      let s : i + suc k ≡ suc i + k = omega arith in
      let there : member (hash_of rs k) (rows_from (suc i) rs p) ≡ true = row_chosen rs (suc i) k (omega arith) (rw s at e) in
      split (p i)
      (λ q. rw q (member_there (hash_of rs k) r.hash (rows_from (suc i) rs p) there))
      (λ q. rw q there)

  -- what is kept of a list along which values ascend
  kept_ascends : (f : ℕ → ℕ) (l : List ℕ) → ascends (map f l) ≡ true → ascends (map f (keep p l)) ≡ true
  unfolding keep
  kept_ascends f [] a = a
  kept_ascends f (x ∷ xs) a =
      let rest : ascends (map f (keep p xs)) ≡ true = kept_ascends f xs (ascends_tail (f x) (map f xs) a) in
      split (p x)
      (λ e.
      rw e
      (ascends_cons (f x) (map f (keep p xs)) rest
      (λ y m.
      let r = member_map f (keep p xs) y m in
      let q = both (p r.0) (member r.0 xs) (sym (keep_member p xs r.0) ∙ r.1) in
      rw (← r.2) (ascends_first (f x) (map f xs) a (f r.0) (map_member f xs r.0 q.1)))))
      (λ e. rw e rest)

-- ---- both lists ascend, and have the same members

pub ascend_by_index : (t : List Row) (l : List ℕ) → fits t l ≡ true → (p : ℕ → Bool) → ascend (rows_where t p) ≡ map (hash_of t) (keep p l)
unfolding rows_where
ascend_by_index t l ok p =
    let w = has t l ok in
    ascending_unique (ascend (rows_from 0 t p)) (map (hash_of t) (keep p l)) (ascend_ascends (rows_from 0 t p)) (kept_ascends p (hash_of t) l w.order)
    (λ h.
    ascend_members h (rows_from 0 t p)
    ∙ same_truth (member h (rows_from 0 t p)) (member h (map (hash_of t) (keep p l)))
    (λ m.
    let c = chosen_row p t 0 h m in
    let kept : member c.0 (keep p l) ≡ true = keep_member p l c.0 ∙ and_true (p c.0) (member c.0 l) (rw zero-add at c.2) (row_named t l ok c.0 c.1) in
    rw (← c.3) (map_member (hash_of t) (keep p l) c.0 kept))
    (λ m.
    let r = member_map (hash_of t) (keep p l) h m in
    let q = both (p r.0) (member r.0 l) (sym (keep_member p l r.0) ∙ r.1) in
    rw (← r.2) (row_chosen p t 0 r.0 (w.below r.0 q.1) (rw zero-add q.0))))
