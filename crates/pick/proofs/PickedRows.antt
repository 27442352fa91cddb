-- The planner over marks: at each row the marks before it are those of what was picked, and going on from there gives the whole pick. Assumes nothing.
use Prim.Native.Nat.{ℕ, zero, suc, ◌+◌, ◌-◌, ◌*◌, ◌≤◌, ◌<◌}
use mathlib.Core.Bool.{Bool, true, false, cond}
use mathlib.Core.List.{List, [], ◌∷◌, ◌++◌, append-nil}
use mathlib.Core.Path.{◌≡◌, refl, sym, ap, ◌∙◌}
use native.Mathlib.Numerals.{add-one}
use native.Mathlib.Omega.{arith}
use borrow.Author.Tests.{eqb-true, eqb-false, ltb-true, ltb-false}
use lib.Dec.{ltb, eqb}
use lib.ListN.{length, get_or, set}
use lib.Seq.{get_or-set_same, get_or-set_other, sets}
use Rattle.hash_order.proofs.KeepLaws.{once_index}
use Rattle.hash_order.proofs.OrderLaws.{member_none, member_here, member_append}
use Rattle.hash_order.specs.Order.{member, Once}
use Rattle.rules.proofs.Cases.{split, same_truth, either, or_left, or_right}
use Rattle.rules.proofs.Hash.{length_hashes_bytes}
use Rattle.rules.specs.Hash.{hashes_bytes}
use Rattle.rules.specs.Sizes.{sizes}
use Rattle.table.proofs.TableLaws.{length_rows, length_rows_at}
use Rattle.table.specs.Table.{Row, rows, hash_of}
use Rattle.table.specs.TableBytes.{rows_at, GoodRows}
use Rattle.table_graph.proofs.PickLaws.{pick_left, left_all, left_taken, left_passed, left_none, picked_count}
use Rattle.table_graph.specs.Internal.Marks.{Blank, marked, picked}
use Rattle.pick.specs.Internal.PickMarks.{RowMarks, row_goes, MarksPicked}
use Rattle.pick.specs.Picking.{goes_now, picked_from, pick_of}
use Rattle.pick.proofs.GoesLaws.{row_goes_lem}
use Rattle.pick.proofs.PlannerLaws.{only_one}

-- ---- the numbers of a list whose marks are set, up to a place

pub pick_up_to : List ℕ → List Bool → ℕ → List ℕ
pick_up_to l m zero = []
pick_up_to l m (suc i) = cond (get_or m i false) (pick_up_to l m i ++ get_or l i 0 ∷ []) (pick_up_to l m i)

module _ (l : List ℕ) (m : List Bool) (i : ℕ) where
  up_to_taken : get_or m i false ≡ true → pick_up_to l m (suc i) ≡ pick_up_to l m i ++ get_or l i 0 ∷ []
  unfolding pick_up_to
  up_to_taken e = rw e

  up_to_passed : get_or m i false ≡ false → pick_up_to l m (suc i) ≡ pick_up_to l m i
  unfolding pick_up_to
  up_to_passed e = rw e

up_to_same : (l : List ℕ) (m r : List Bool) (i : ℕ) → ((k : ℕ) → k < i → get_or r k false ≡ get_or m k false) → pick_up_to l r i ≡ pick_up_to l m i
unfolding pick_up_to
up_to_same l m r zero f = refl
up_to_same l m r (suc i) f = rw (f i (omega arith), up_to_same l m r i (λ k h. f k (omega arith)))

append_last : (a : List ℕ) (x : ℕ) (b : List ℕ) → (a ++ x ∷ []) ++ b ≡ a ++ x ∷ b
append_last [] x b = refl
append_last (y ∷ a) x b = ap (λ (r : List ℕ). y ∷ r) (append_last a x b)

length_last : (a : List ℕ) (x : ℕ) → length (a ++ x ∷ []) ≡ length a + 1
length_last [] x = refl
length_last (y ∷ a) x = let z = length_last a x in let w : length (y ∷ a) ≡ suc (length a) = refl in omega arith

module _ (l : List ℕ) (m : List Bool) where
  -- with what is left they are all of them
  up_to_rest : (i : ℕ) → i ≤ length l → pick_up_to l m i ++ pick_left l m i ≡ picked l m
  unfolding pick_up_to
  up_to_rest zero h = left_all l m
  up_to_rest (suc i) h =
      let last = up_to_rest i (omega arith) in
      split (get_or m i false)
      (λ e. rw (e, append_last (pick_up_to l m i) (get_or l i 0) (pick_left l m (suc i)))
      (ap (λ (r : List ℕ). pick_up_to l m i ++ r) (sym (rw (add-one i) at (left_taken l m i (omega arith) e))) ∙ last))
      (λ e. rw e (ap (λ (r : List ℕ). pick_up_to l m i ++ r) (sym (rw (add-one i) at (left_passed l m i (omega arith) e))) ∙ last))

  pub up_to_all : (n : ℕ) → length l ≡ n → pick_up_to l m n ≡ picked l m
  up_to_all n e =
      sym (append-nil (pick_up_to l m n))
      ∙ ap (λ (r : List ℕ). pick_up_to l m n ++ r) (sym (left_none l m n (omega arith)))
      ∙ up_to_rest n (omega arith)

  up_to_in : (i k : ℕ) → k < i → get_or m k false ≡ true → member (get_or l k 0) (pick_up_to l m i) ≡ true
  unfolding pick_up_to
  up_to_in zero k h e = absurd (omega arith)
  up_to_in (suc i) k h e =
      split (eqb k i)
      (λ q.
      let same : k ≡ i = eqb-true k i q in
      let here : get_or m i false ≡ true = rw same at e in
      rw (here, same, member_append (get_or l i 0) (pick_up_to l m i) (get_or l i 0 ∷ []))
      (or_right (member (get_or l i 0) (pick_up_to l m i)) _ (member_here (get_or l i 0) [])))
      (λ q.
      let other = eqb-false k i q in
      let less : k < i = split (ltb k i) (λ t. ltb-true k i t) (λ t. absurd (other (let z = ltb-false k i t in omega arith))) in
      let rest = up_to_in i k less e in
      split (get_or m i false)
      (λ d. rw (d, member_append (get_or l k 0) (pick_up_to l m i) (get_or l i 0 ∷ [])) (or_left _ (member (get_or l k 0) (get_or l i 0 ∷ [])) rest))
      (λ d. rw d rest))

  up_to_out : (i h : ℕ) → member h (pick_up_to l m i) ≡ true → record { k : ℕ; less : k < i; is : get_or l k 0 ≡ h; set_there : get_or m k false ≡ true }
  unfolding pick_up_to
  up_to_out zero h e = absurd (member_none h e)
  up_to_out (suc i) h e =
      split (get_or m i false)
      (λ d.
      either (member h (pick_up_to l m i)) (member h (get_or l i 0 ∷ [])) (sym (member_append h (pick_up_to l m i) (get_or l i 0 ∷ [])) ∙ (rw d at e))
      (λ q. let w = up_to_out i h q in record { k = w.k; less = let z = w.less in omega arith; is = w.is; set_there = w.set_there })
      (λ q. record { k = i; less = omega arith; is = sym (only_one h (get_or l i 0) q); set_there = d }))
      (λ d. let w = up_to_out i h (rw d at e) in record { k = w.k; less = let z = w.less in omega arith; is = w.is; set_there = w.set_there })

  -- a mark says whether a number of a list without repeats is one of them
  up_to_member : Once l → (i k : ℕ) → i ≤ length l → k < i → get_or m k false ≡ member (get_or l k 0) (pick_up_to l m i)
  up_to_member once i k h less =
      same_truth (get_or m k false) (member (get_or l k 0) (pick_up_to l m i))
      (λ e. up_to_in i k less e)
      (λ e.
      let w = up_to_out i (get_or l k 0) e in
      let same : w.k ≡ k = once_index l once w.k k (let z = w.less in omega arith) (omega arith) w.is in
      rw same at w.set_there)

-- ---- row by row

no_more : (t : List Row) (list rowSizes : List ℕ) (i c left : ℕ) (before : List ℕ) → c ≡ 0 → before ≡ picked_from t list rowSizes i c left before
unfolding picked_from
no_more t list rowSizes i c left before e = rw e

-- The loop's state before row i: what was picked, as marks and counted, and what follows from here is the whole pick.
pub record PickedSoFar (s : List ℕ) (n : ℕ) (rowSizes : List ℕ) (budget : ℕ) (listed picks : List Bool) (left count i : ℕ) : Type 0 where
  pub blank : (k : ℕ) → i ≤ k → k < n → get_or picks k false ≡ false
  pub many : count ≡ length (pick_up_to (rows (rows_at s 0 n)) picks i)
  pub few : count ≤ i
  pub rest :
      (list : List ℕ) → RowMarks s n list listed
      → picked_from (rows_at s 0 n) list rowSizes i (n - i) left (pick_up_to (rows (rows_at s 0 n)) picks i) ≡ pick_of (rows_at s 0 n) list rowSizes budget

module _ (s : List ℕ) (n : ℕ) (rowSizes : List ℕ) (budget : ℕ) (listed : List Bool) where
  abbrev t : List Row
  t = rows_at s 0 n

  long_rows : length (rows t) ≡ n
  long_rows = length_rows t ∙ length_rows_at s 0 n

  pub planned_starts : (first : List Bool) → Blank n first → PickedSoFar s n rowSizes budget listed first budget 0 0
  unfolding pick_up_to pick_of
  planned_starts first b =
      record {
        blank = λ k h l. b.each k l;
        many = refl;
        few = omega arith;
        rest =
            λ list marks.
            let e : n - 0 ≡ n = omega arith in
            rw (e, length_rows_at s 0 n);
      }

  module _ (g : GoodRows s n) (picks : List Bool) (left count i : ℕ)
      (w : PickedSoFar s n rowSizes budget listed picks left count i)
      (inside : i < n)
    where
      tells : (list : List ℕ) → RowMarks s n list listed
          → row_goes s listed picks (get_or rowSizes i 0) left i ≡ goes_now t list rowSizes left (pick_up_to (rows t) picks i) i
      unfolding hash_of
      tells list marks =
          row_goes_lem s n g list listed marks (pick_up_to (rows t) picks i) picks i inside
          (λ k h. up_to_member (rows t) picks g.good.once i k (let z = long_rows in omega arith) h)
          rowSizes (get_or rowSizes i 0) left refl

      -- from here on, by whether the row goes
      goes_on : (list : List ℕ) (before : List ℕ) → goes_now t list rowSizes left before i ≡ true
          → picked_from t list rowSizes i (n - i) left before
          ≡ picked_from t list rowSizes (i + 1) (n - (i + 1)) (left - get_or rowSizes i 0) (before ++ hash_of t i ∷ [])
      unfolding picked_from
      goes_on list before e =
          let d : n - i ≡ suc (n - (i + 1)) = omega arith in
          rw (d, e, add-one i)

      stays_on : (list : List ℕ) (before : List ℕ) → goes_now t list rowSizes left before i ≡ false
          → picked_from t list rowSizes i (n - i) left before ≡ picked_from t list rowSizes (i + 1) (n - (i + 1)) left before
      unfolding picked_from
      stays_on list before e =
          let d : n - i ≡ suc (n - (i + 1)) = omega arith in
          rw (d, e, add-one i)

      pub planned_stays : row_goes s listed picks (get_or rowSizes i 0) left i ≡ false → PickedSoFar s n rowSizes budget listed picks left count (i + 1)
      planned_stays e =
          let same : pick_up_to (rows t) picks (i + 1) ≡ pick_up_to (rows t) picks i =
          rw (add-one i) (up_to_passed (rows t) picks i (w.blank i (omega arith) inside)) in
          record {
            blank = λ k h l. w.blank k (omega arith) l;
            many = rw same w.many;
            few = let z = w.few in omega arith;
            rest = λ list marks. rw same (sym (stays_on list (pick_up_to (rows t) picks i) (sym (tells list marks) ∙ e)) ∙ w.rest list marks);
          }

      pub planned_takes : i < length picks → row_goes s listed picks (get_or rowSizes i 0) left i ≡ true
          → PickedSoFar s n rowSizes budget listed (set picks i true) (left - get_or rowSizes i 0) (count + 1) (i + 1)
      unfolding hash_of
      planned_takes room e =
          let now-set : get_or (set picks i true) i false ≡ true = get_or-set_same picks i true false room in
          let more : pick_up_to (rows t) (set picks i true) (i + 1) ≡ pick_up_to (rows t) picks i ++ get_or (rows t) i 0 ∷ [] =
          rw (add-one i)
          (up_to_taken (rows t) (set picks i true) i now-set
          ∙ ap (λ (r : List ℕ). r ++ get_or (rows t) i 0 ∷ [])
          (up_to_same (rows t) picks (set picks i true) i
          (λ k h. get_or-set_other picks i k true false (λ same. let z : k ≡ i = same in absurd (omega arith)))))
          in
          record {
            blank =
                λ k h l.
                get_or-set_other picks i k true false (λ same. let z : k ≡ i = same in absurd (omega arith)) ∙ w.blank k (omega arith) l;
            many = rw more (let z = length_last (pick_up_to (rows t) picks i) (get_or (rows t) i 0) in let y = w.many in omega arith);
            few = let z = w.few in omega arith;
            rest = λ list marks. rw more (sym (goes_on list (pick_up_to (rows t) picks i) (sym (tells list marks) ∙ e)) ∙ w.rest list marks);
          }

  pub planned_ends : (picks : List Bool) (left count i : ℕ) → PickedSoFar s n rowSizes budget listed picks left count i → i ≤ n → n ≤ i
      → (list : List ℕ) → RowMarks s n list listed
      → MarksPicked s n rowSizes budget list picks count
  planned_ends picks left count i w upto h list marks =
      let at : i ≡ n = omega arith in
      let whole : pick_up_to (rows t) picks i ≡ pick_of t list rowSizes budget =
      no_more t list rowSizes i (n - i) left (pick_up_to (rows t) picks i) (omega arith) ∙ w.rest list marks in
      record {
        hashes = sym (up_to_all (rows t) picks n long_rows) ∙ ap (pick_up_to (rows t) picks) (sym at) ∙ whole;
        many = w.many ∙ ap length whole;
      }

-- ---- what was marked is what is put

module _ (s : List ℕ) (n : ℕ) (rowSizes : List ℕ) (budget : ℕ) (list : List ℕ) (picks : List Bool) (count : ℕ)
    (w : MarksPicked s n rowSizes budget list picks count)
  where
    pub picked_size : sizes.hash * count ≡ length (hashes_bytes (pick_of (rows_at s 0 n) list rowSizes budget))
    picked_size = rw (length_hashes_bytes (pick_of (rows_at s 0 n) list rowSizes budget)) (let z = w.many in omega arith)

    pub picked_marked : count ≡ marked n picks
    picked_marked =
        w.many ∙ ap length (sym w.hashes) ∙ picked_count (rows (rows_at s 0 n)) picks n (length_rows (rows_at s 0 n) ∙ length_rows_at s 0 n)

    pub picked_put : (out next : List ℕ) → next ≡ sets out 0 (hashes_bytes (picked (rows (rows_at s 0 n)) picks))
        → next ≡ sets out 0 (hashes_bytes (pick_of (rows_at s 0 n) list rowSizes budget))
    picked_put out next e = rw w.hashes at e
