-- The planner's pick is always accepted: at each row what was picked before it is in order, sound and within the budget, and where nothing was picked no row
-- before it would go by itself. Assumes nothing.
use Prim.Native.Nat.{ℕ, zero, suc, ◌+◌, ◌-◌, ◌≤◌, ◌<◌}
use mathlib.Core.Bool.{true, false, not, ◌&&◌, ◌||◌}
use mathlib.Core.List.{List, [], ◌∷◌, ◌++◌, map}
use mathlib.Core.Path.{◌≡◌, refl, sym, ap, subst, ◌∙◌}
use native.Mathlib.Omega.{arith}
use borrow.Author.Tests.{eqb-true, leb-true, le-leb}
use lib.Dec.{leb, eqb}
use lib.ListN.{length, get_or}
use Rattle.hash_order.proofs.KeepLaws.{every_member, every_one}
use Rattle.hash_order.proofs.OrderLaws.{
  member_none,
  member_here,
  member_there,
  member_append,
  ascends_tail,
  ascends_first,
  ascends_cons,
}
use Rattle.hash_order.proofs.ReachLaws.{below_suc}
use Rattle.hash_order.specs.Order.{member, every, ascends}
use Rattle.rules.proofs.Cases.{split, both, true_false, either, or_left, or_right, and_true}
use Rattle.table.proofs.TableLaws.{held_row, number_of_row, row_of_held, hash_of_held}
use Rattle.table.specs.Table.{Row, GoodTable, hash_of, row_number, held, deps}
use Rattle.table_graph.proofs.BelowLaws.{dependency, member_map, map_member}
use Rattle.pick.specs.Picking.{goes_with, size_sum, pick_fits, empty_allowed, goes_now, picked_from, pick_of, PlannerAccepted}
use Rattle.pick.proofs.AcceptLaws.{AllFits, fits_has, single_small, single_sound, accepted_is, none_long}

-- ---- the planner

pub only_one : (a b : ℕ) → member a (b ∷ []) ≡ true → a ≡ b
unfolding member
only_one a b m = either (eqb a b) false m (λ k. eqb-true a b k) (λ k. absurd (true_false false k refl))

ascends_last : (f : ℕ → ℕ) (l : List ℕ) (h : ℕ) → ascends (map f l) ≡ true → ((x : ℕ) → member x l ≡ true → f x < f h) → ascends (map f (l ++ h ∷ [])) ≡ true
unfolding ascends
ascends_last f [] h a e = refl
ascends_last f (x ∷ l) h a e =
    ascends_cons (f x) (map f (l ++ h ∷ []))
    (ascends_last f l h (ascends_tail (f x) (map f l) a) (λ y m. e y (member_there y x l m)))
    (λ y m.
    let k = map_member f (l ++ h ∷ []) y m in
    either (member k.k l) (member k.k (h ∷ [])) (sym (member_append k.k l (h ∷ [])) ∙ k.there)
    (λ n. let z = ascends_first (f x) (map f l) a (f k.k) (member_map f l k.k n) in let q = k.is in omega arith)
    (λ n. let z = e x (member_here x l) in let q = k.is in let w = ap f (only_one k.k h n) in omega arith))

sum_last : (t : List Row) (rowSizes l : List ℕ) (h : ℕ) → size_sum t rowSizes (l ++ h ∷ []) ≡ size_sum t rowSizes l + get_or rowSizes (row_number t h) 0
unfolding size_sum
sum_last t rowSizes [] h = omega arith
sum_last t rowSizes (x ∷ l) h = let z = sum_last t rowSizes l h in omega arith

not_none : (l : List ℕ) (h : ℕ) → l ++ h ∷ [] ≡ [] → ⊥
not_none [] h e = let z : ◌≡◌ {A = ℕ} 1 0 = ap length e in omega arith
not_none (x ∷ l) h e = let z : suc (length (l ++ h ∷ [])) ≡ 0 = ap length e in omega arith

module _ (t : List Row) (list rowSizes : List ℕ) (budget : ℕ) (good : GoodTable t) where
  -- a hash of a pick, but for its order
  record Sound (pick : List ℕ) (h : ℕ) : Type 0 where
    held_there : held t h ≡ true
    listed : member h list ≡ true
    with_it : goes_with t list pick h ≡ true

  -- before row i
  record State (i left : ℕ) (pick : List ℕ) : Type 0 where
    ordered : ascends (map (row_number t) pick) ≡ true
    before : (h : ℕ) → member h pick ≡ true → row_number t h < i
    sound : (h : ℕ) → member h pick ≡ true → Sound pick h
    sum : size_sum t rowSizes pick + left ≡ budget
    none : pick ≡ [] → (j : ℕ) → j < i → pick_fits t list rowSizes budget (hash_of t j ∷ []) ≡ false

  begins : State 0 budget []
  unfolding ascends size_sum
  begins =
      record {
        ordered = refl;
        before = λ h m. absurd (member_none h m);
        sound = λ h m. absurd (member_none h m);
        sum = omega arith;
        none = λ e j l. absurd (omega arith);
      }

  with_more : (pick : List ℕ) (g h : ℕ) → goes_with t list pick h ≡ true → goes_with t list (pick ++ g ∷ []) h ≡ true
  unfolding goes_with
  with_more pick g h e =
      every_one _ (deps t h)
      (λ d m.
      either (not (member d list)) (member d pick) (every_member (λ d. not (member d list) || member d pick) (deps t h) e d m)
      (λ k. or_left _ (member d (pick ++ g ∷ [])) k)
      (λ k. or_right (not (member d list)) _ (member_append d pick (g ∷ []) ∙ or_left _ (member d (g ∷ [])) k)))

  -- row i goes
  takes : (i left : ℕ) (pick : List ℕ) → i < length t → State i left pick → goes_now t list rowSizes left pick i ≡ true
      → State (suc i) (left - get_or rowSizes i 0) (pick ++ hash_of t i ∷ [])
  unfolding goes_now
  takes i left pick l st e =
      let h : ℕ = hash_of t i in
      let at : row_number t h ≡ i = number_of_row t good i l in
      let a = both (member h list) (goes_with t list pick h && leb (get_or rowSizes i 0) left) e in
      let b = both (goes_with t list pick h) (leb (get_or rowSizes i 0) left) a.1 in
      record {
        ordered = ascends_last (row_number t) pick h st.ordered (λ x m. let z = st.before x m in omega arith);
        before =
            λ g m.
            either (member g pick) (member g (h ∷ [])) (sym (member_append g pick (h ∷ [])) ∙ m)
            (λ k. let z = st.before g k in omega arith)
            (λ k. let z = ap (row_number t) (only_one g h k) in omega arith);
        sound =
            λ g m.
            either (member g pick) (member g (h ∷ [])) (sym (member_append g pick (h ∷ [])) ∙ m)
            (λ k. let s = st.sound g k in record { held_there = s.held_there; listed = s.listed; with_it = with_more pick h g s.with_it })
            (λ k.
            subst (Sound (pick ++ h ∷ [])) (sym (only_one g h k))
            (record { held_there = held_row t i l; listed = a.0; with_it = with_more pick h h b.0 }));
        sum =
            let s = st.sum in
            let q = sum_last t rowSizes pick h in
            let w : get_or rowSizes (row_number t h) 0 ≡ get_or rowSizes i 0 = ap (λ (x : ℕ). get_or rowSizes x 0) at in
            let z = leb-true (get_or rowSizes i 0) left b.1 in
            omega arith;
        none = λ n. absurd (not_none pick h n);
      }

  -- row i stays: where nothing was picked before it isn't a pick by itself
  pub alone_goes : (i left : ℕ) → i < length t → left ≡ budget → pick_fits t list rowSizes budget (hash_of t i ∷ []) ≡ true
      → goes_now t list rowSizes left [] i ≡ true
  unfolding goes_now goes_with
  alone_goes i left l q e =
      let h : ℕ = hash_of t i in
      let f = fits_has t list (h ∷ []) 0 h (single_sound t list rowSizes budget h e) in
      let small = single_small t list rowSizes budget h e in
      let at : row_number t h ≡ i = number_of_row t good i l in
      let w : get_or rowSizes (row_number t h) 0 ≡ get_or rowSizes i 0 = ap (λ (x : ℕ). get_or rowSizes x 0) at in
      let free : every (λ d. not (member d list) || member d []) (deps t h) ≡ true =
      every_one (λ d. not (member d list) || member d []) (deps t h)
      (λ d m.
      either (not (member d list)) (member d (h ∷ [])) (every_member (λ d. not (member d list) || member d (h ∷ [])) (deps t h) f.with_it d m)
      (λ k. or_left _ (member d []) k)
      (λ k.
      let same = only_one d h k in
      let dep = dependency t good h d m in
      let less = dep.less in
      let ins : dep.row < length t = omega (arith, dep.less, dep.inside) in
      let num : row_number t d ≡ dep.row = ap (row_number t) (sym dep.is) ∙ number_of_row t good dep.row ins in
      let sm = ap (row_number t) same in
      absurd (omega arith)))
      in
      and_true (member h list) _ f.listed (and_true _ _ free (le-leb (get_or rowSizes i 0) left (omega arith)))

  whole : (left : ℕ) (p : List ℕ) → p ≡ [] → size_sum t rowSizes p + left ≡ budget → left ≡ budget
  unfolding size_sum
  whole left [] n s = omega arith
  whole left (x ∷ p) n s = absurd (let z : suc (length p) ≡ 0 = ap length n in omega arith)

  stays : (i left : ℕ) (pick : List ℕ) → i < length t → State i left pick → goes_now t list rowSizes left pick i ≡ false → State (suc i) left pick
  stays i left pick l st e =
      record {
        ordered = st.ordered;
        before = λ h m. let z = st.before h m in omega arith;
        sound = st.sound;
        sum = st.sum;
        none = λ n. below_suc (λ j. pick_fits t list rowSizes budget (hash_of t j ∷ []) ≡ false) i (st.none n) (alone n);
      }
    where
      alone : pick ≡ [] → pick_fits t list rowSizes budget (hash_of t i ∷ []) ≡ false
      alone n =
          split (pick_fits t list rowSizes budget (hash_of t i ∷ []))
          (λ x.
          absurd (true_false (goes_now t list rowSizes left pick i)
          (subst (λ p. goes_now t list rowSizes left p i ≡ true) (sym n) (alone_goes i left l (whole left pick n st.sum) x)) e))
          (λ x. x)

  record Ends (pick : List ℕ) : Type 0 where
    left : ℕ
    state : State (length t) left pick

  runs : (count i left : ℕ) (pick : List ℕ) → i + count ≡ length t → State i left pick → Ends (picked_from t list rowSizes i count left pick)
  unfolding picked_from
  runs zero i left pick e st = record { left = left; state = subst (λ n. State n left pick) (let z : i ≡ length t = omega arith in z) st }
  runs (suc count) i left pick e st =
      split (goes_now t list rowSizes left pick i)
      (λ x. rw x (runs count (suc i) (left - get_or rowSizes i 0) (pick ++ hash_of t i ∷ []) (omega arith) (takes i left pick (omega arith) st x)))
      (λ x. rw x (runs count (suc i) left pick (omega arith) (stays i left pick (omega arith) st x)))

  all_fits : (pick : List ℕ) (from : ℕ) (hs : List ℕ) → ascends (map (row_number t) hs) ≡ true → ((h : ℕ) → member h hs ≡ true → from ≤ row_number t h)
      → ((h : ℕ) → member h hs ≡ true → Sound pick h)
      → AllFits t list pick from hs
  unfolding AllFits
  all_fits pick from [] a f s = tt
  all_fits pick from (x ∷ hs) a f s =
      let y = s x (member_here x hs) in (
        record { held_there = y.held_there; listed = y.listed; behind = f x (member_here x hs); with_it = y.with_it },
        all_fits pick (suc (row_number t x)) hs (ascends_tail (row_number t x) (map (row_number t) hs) a)
            (λ h m. ascends_first (row_number t x) (map (row_number t) hs) a (row_number t h) (member_map (row_number t) hs h m))
            (λ h m. s h (member_there h x hs m)),
      )

  nothing_alone : (pick : List ℕ) → Ends pick → length pick ≡ 0 → empty_allowed t list rowSizes budget ≡ true
  unfolding empty_allowed
  nothing_alone pick en l =
      every_one (λ h. not (pick_fits t list rowSizes budget (h ∷ []))) list
      (λ h m.
      split (pick_fits t list rowSizes budget (h ∷ []))
      (λ x.
      let f = fits_has t list (h ∷ []) 0 h (single_sound t list rowSizes budget h x) in
      let n = en.state.none (none_long pick l) (row_number t h) (row_of_held t h f.held_there) in
      absurd (true_false (pick_fits t list rowSizes budget (h ∷ [])) x
      (subst (λ g. pick_fits t list rowSizes budget (g ∷ []) ≡ false) (hash_of_held t h f.held_there) n)))
      (λ x. ap not x))

pub planner_accepted : PlannerAccepted
unfolding pick_of
planner_accepted t list rowSizes budget good each =
    let pick : List ℕ = picked_from t list rowSizes 0 (length t) budget [] in
    let en = runs t list rowSizes budget good (length t) 0 budget [] (omega arith) (begins t list rowSizes budget good) in
    accepted_is t list rowSizes budget pick
    (record {
      fits = all_fits t list rowSizes budget good pick 0 pick en.state.ordered (λ h m. omega arith) en.state.sound;
      each = each;
      small = let z = en.state.sum in omega arith;
      some = nothing_alone t list rowSizes budget good pick en;
    })
