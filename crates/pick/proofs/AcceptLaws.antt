-- The check accepts just the picks that 02 calls acceptable: the parts of a hash that fits, a pick in which each does, one behind the other, and what is left
-- of the tests. Assumes nothing.
use Prim.Native.Nat.{ℕ, zero, suc, ◌+◌, ◌≤◌, ◌<◌}
use mathlib.Core.Bool.{Bool, true, false, cond, not, ◌&&◌, ◌||◌}
use mathlib.Core.List.{List, [], ◌∷◌, map}
use mathlib.Core.Path.{◌≡◌, refl, ap, ◌∙◌}
use native.Mathlib.Omega.{arith}
use borrow.Author.Tests.{eqb-true, eq-eqb, not-true, not-false, ltb-false, le-ltb, leb-true, le-leb}
use lib.Dec.{ltb, leb, eqb}
use lib.ListN.{length, get_or, length-map}
use Rattle.hash_order.proofs.KeepLaws.{every_member, every_one, once_none, once_cons}
use Rattle.hash_order.proofs.OrderLaws.{member_none, member_here, member_there, member_index, ascends_tail, ascends_first, ascends_cons, ascends_index}
use Rattle.hash_order.specs.Order.{member, every, ascends, Once}
use Rattle.rules.proofs.Cases.{split, both, true_false, either, or_left, or_right, and_true}
use Rattle.table.specs.Table.{Row, row_number, held, deps}
use Rattle.table_graph.proofs.BelowLaws.{member_map, map_member}
use Rattle.pick.specs.Picking.{goes_with, hash_fits, first_broken, size_sum, pick_fits, empty_allowed, pick_checked, Acceptable, CheckTells}
use Rattle.std.specs.Prelude.{Result, Ok, Err}

-- ---- a single hash

-- it fits where it is in the list, none of its dependencies is, and it is small enough
pub single_fits : (t : List Row) (list rowSizes : List ℕ) (budget h : ℕ) → held t h ≡ true → member h list ≡ true
    → ((d : ℕ) → member d (deps t h) ≡ true → member d list ≡ false)
    → get_or rowSizes (row_number t h) 0 ≤ budget
    → pick_fits t list rowSizes budget (h ∷ []) ≡ true
unfolding pick_fits first_broken hash_fits goes_with size_sum
single_fits t list rowSizes budget h held-h listed free small =
    let rest : every (λ d. not (member d list) || member d (h ∷ [])) (deps t h) ≡ true =
    every_one (λ d. not (member d list) || member d (h ∷ [])) (deps t h) (λ d m. or_left _ (member d (h ∷ [])) (ap not (free d m)))
    in
    rw (held-h, listed, le-leb 0 (row_number t h) (omega arith), rest) (le-leb (get_or rowSizes (row_number t h) 0 + 0) budget (omega arith))

-- and what fits is so
pub single_small : (t : List Row) (list rowSizes : List ℕ) (budget h : ℕ) → pick_fits t list rowSizes budget (h ∷ []) ≡ true
    → get_or rowSizes (row_number t h) 0 ≤ budget
unfolding pick_fits size_sum
single_small t list rowSizes budget h e =
    let z : get_or rowSizes (row_number t h) 0 + 0 ≤ budget =
    leb-true _ budget (both (eqb (first_broken t list (h ∷ []) 0 0 (h ∷ [])) 1) (leb (get_or rowSizes (row_number t h) 0 + 0) budget) e).1 in
    omega arith

pub single_sound : (t : List Row) (list rowSizes : List ℕ) (budget h : ℕ) → pick_fits t list rowSizes budget (h ∷ []) ≡ true
    → hash_fits t list (h ∷ []) 0 h ≡ true
unfolding pick_fits first_broken
single_sound t list rowSizes budget h e =
    split (hash_fits t list (h ∷ []) 0 h) (λ x. x)
    (λ x.
    let z : eqb (cond (not (hash_fits t list (h ∷ []) 0 h)) 0 1) 1 ≡ true =
    (both (eqb (cond (not (hash_fits t list (h ∷ []) 0 h)) 0 1) 1) (leb (size_sum t rowSizes (h ∷ [])) budget) e).0 in
    absurd (let y : ◌≡◌ {A = ℕ} 0 1 = eqb-true 0 1 (rw x at z) in omega arith))

-- ---- the parts of a hash that fits

pub record FittingHash (t : List Row) (list pick : List ℕ) (from h : ℕ) : Type 0 where
  pub held_there : held t h ≡ true
  pub listed : member h list ≡ true
  pub behind : from ≤ row_number t h
  pub with_it : goes_with t list pick h ≡ true

pub fits_has : (t : List Row) (list pick : List ℕ) (from h : ℕ) → hash_fits t list pick from h ≡ true → FittingHash t list pick from h
unfolding hash_fits
fits_has t list pick from h e =
    let a = both _ _ e in
    let b = both _ _ a.0 in
    let c = both _ _ a.1 in
    record { held_there = b.0; listed = b.1; behind = leb-true from (row_number t h) c.0; with_it = c.1 }

pub has_fits : (t : List Row) (list pick : List ℕ) (from h : ℕ) → FittingHash t list pick from h → hash_fits t list pick from h ≡ true
unfolding hash_fits
has_fits t list pick from h f = rw (f.held_there, f.listed, le-leb from (row_number t h) f.behind, f.with_it)

-- ---- a pick in which no hash breaks a rule

module _ (t : List Row) (list pick : List ℕ) where
  abbrev rn : ℕ → ℕ
  rn = row_number t

  -- each hash fits, one behind the other
  unfoldable pub AllFits : ℕ → List ℕ → Type 0
  AllFits from [] = Unit {0}
  AllFits from (h ∷ hs) = FittingHash t list pick from h × AllFits (suc (rn h)) hs

  broken_first : (from p h : ℕ) (hs : List ℕ) → hash_fits t list pick from h ≡ false → first_broken t list pick from p (h ∷ hs) ≡ p
  unfolding first_broken
  broken_first from p h hs e = rw e

  broken_on : (from p h : ℕ) (hs : List ℕ) → hash_fits t list pick from h ≡ true
      → first_broken t list pick from p (h ∷ hs) ≡ first_broken t list pick (suc (rn h)) (suc p) hs
  unfolding first_broken
  broken_on from p h hs e = rw e

  pub unbroken_fits : (from p : ℕ) (hs : List ℕ) → p + length hs ≤ first_broken t list pick from p hs → AllFits from hs
  unfolding AllFits
  unbroken_fits from p [] e = tt
  unbroken_fits from p (h ∷ hs) e =
      split (hash_fits t list pick from h)
      (λ x.
      let on = broken_on from p h hs x in
      let l : length (h ∷ hs) ≡ suc (length hs) = refl in
      (fits_has t list pick from h x, unbroken_fits (suc (rn h)) (suc p) hs (omega arith)))
      (λ x. absurd (let z = broken_first from p h hs x in let l : length (h ∷ hs) ≡ suc (length hs) = refl in omega arith))

  pub fits_unbroken : (from p : ℕ) (hs : List ℕ) → AllFits from hs → first_broken t list pick from p hs ≡ p + length hs
  unfolding AllFits first_broken
  fits_unbroken from p [] e = omega arith
  fits_unbroken from p (h ∷ hs) e =
      let z = broken_on from p h hs (has_fits t list pick from h e.0) in
      let y = fits_unbroken (suc (rn h)) (suc p) hs e.1 in
      let l : length (h ∷ hs) ≡ suc (length hs) = refl in
      omega arith

  -- rows behind `from`
  pub fits_from : (from : ℕ) (hs : List ℕ) → AllFits from hs → (h : ℕ) → member h hs ≡ true → from ≤ rn h
  unfolding AllFits member
  fits_from from [] e h m = absurd (member_none h m)
  fits_from from (x ∷ hs) e h m =
      either (eqb h x) (member h hs) m
      (λ k. rw (eqb-true h x k) e.0.behind)
      (λ k. let z = fits_from (suc (rn x)) hs e.1 h k in let y = e.0.behind in omega arith)

  pub fits_listed : (from : ℕ) (hs : List ℕ) → AllFits from hs → (h : ℕ) → member h hs ≡ true → member h list ≡ true
  unfolding AllFits member
  fits_listed from [] e h m = absurd (member_none h m)
  fits_listed from (x ∷ hs) e h m =
      either (eqb h x) (member h hs) m (λ k. rw (eqb-true h x k) e.0.listed) (λ k. fits_listed (suc (rn x)) hs e.1 h k)

  pub fits_once : (from : ℕ) (hs : List ℕ) → AllFits from hs → Once hs
  unfolding AllFits
  fits_once from [] e = once_none
  fits_once from (x ∷ hs) e =
      once_cons x hs
      (split (member x hs) (λ m. absurd (let z = fits_from (suc (rn x)) hs e.1 x m in omega arith)) (λ m. m))
      (fits_once (suc (rn x)) hs e.1)

-- ---- what acceptance says

pub record Accepts (t : List Row) (list rowSizes : List ℕ) (budget : ℕ) (pick : List ℕ) : Type 0 where
  pub fits : AllFits t list pick 0 pick
  pub each : length rowSizes ≡ length t
  pub small : size_sum t rowSizes pick ≤ budget
  pub some : length pick ≡ 0 → empty_allowed t list rowSizes budget ≡ true

taken : (a b c d : Bool) (x y z w : Result Unit ℕ) → cond a x (cond b y (cond c z (cond d w (Ok tt)))) ≡ Ok tt
    → (x ≡ Ok tt → ⊥) → (y ≡ Ok tt → ⊥) → (z ≡ Ok tt → ⊥) → (w ≡ Ok tt → ⊥)
    → (a ≡ false) × (b ≡ false) × (c ≡ false) × (d ≡ false)
taken true b c d x y z w e fx fy fz fw = absurd (fx e)
taken false true c d x y z w e fx fy fz fw = absurd (fy e)
taken false false true d x y z w e fx fy fz fw = absurd (fz e)
taken false false false true x y z w e fx fy fz fw = absurd (fw e)
taken false false false false x y z w e fx fy fz fw = (refl, refl, refl, refl)

not_fine : (p : ℕ) → ◌≡◌ {A = Result Unit ℕ} (Err p) (Ok tt) → ⊥
not_fine p e = true_false (is_fine (Err p)) (ap is_fine e) refl
  where
    is_fine : Result Unit ℕ → Bool
    is_fine (Ok tt) = true
    is_fine (Err q) = false

unbroken : (a b : ℕ) → ltb a b ≡ false → 0 + b ≤ a
unbroken a b e = let z = ltb-false a b e in omega arith

pub accepts : (t : List Row) (list rowSizes : List ℕ) (budget : ℕ) (pick : List ℕ) → pick_checked t list rowSizes budget pick ≡ Ok tt
    → Accepts t list rowSizes budget pick
unfolding pick_checked
accepts t list rowSizes budget pick e =
    let (a, b, c, d) = taken _ _ _ _ _ _ _ _ e (not_fine _) (not_fine _) (not_fine _) (not_fine _) in
    record {
      fits = unbroken_fits t list pick 0 0 pick (unbroken (first_broken t list pick 0 0 pick) (length pick) a);
      each = eqb-true (length rowSizes) (length t) (not-false _ b);
      small = ltb-false budget _ c;
      some = λ l. split (empty_allowed t list rowSizes budget) (λ x. x) (λ x. absurd (true_false _ (and_true _ _ (eq-eqb (length pick) 0 l) (ap not x)) d));
    }

pub accepted_is : (t : List Row) (list rowSizes : List ℕ) (budget : ℕ) (pick : List ℕ) → Accepts t list rowSizes budget pick
    → pick_checked t list rowSizes budget pick ≡ Ok tt
unfolding pick_checked
accepted_is t list rowSizes budget pick a =
    let f = fits_unbroken t list pick 0 0 pick a.fits in
    let broken : ltb (first_broken t list pick 0 0 pick) (length pick) ≡ false = le-ltb _ (length pick) (omega arith) in
    let one : eqb (length rowSizes) (length t) ≡ true = eq-eqb _ _ a.each in
    let sum : ltb budget (size_sum t rowSizes pick) ≡ false = le-ltb budget _ a.small in
    let last : (eqb (length pick) 0 && not (empty_allowed t list rowSizes budget)) ≡ false =
    split (eqb (length pick) 0) (λ x. rw (x, a.some (eqb-true _ 0 x))) (λ x. rw x)
    in
    rw (broken, one, sum, last)

-- ---- the check says what 02 says

module _ (t : List Row) (list pick : List ℕ) where
  pub fits_parts : (from : ℕ) (hs : List ℕ) → AllFits t list pick from hs → (h : ℕ) → member h hs ≡ true
      → (held t h ≡ true) × (goes_with t list pick h ≡ true)
  unfolding AllFits member
  fits_parts from [] e h m = absurd (member_none h m)
  fits_parts from (x ∷ hs) e h m =
      either (eqb h x) (member h hs) m
      (λ k. rw (eqb-true h x k) (e.0.held_there, e.0.with_it))
      (λ k. fits_parts (suc (row_number t x)) hs e.1 h k)

  pub fits_ascend : (from : ℕ) (hs : List ℕ) → AllFits t list pick from hs → ascends (map (row_number t) hs) ≡ true
  unfolding AllFits ascends
  fits_ascend from [] e = refl
  fits_ascend from (x ∷ hs) e =
      ascends_cons (row_number t x) (map (row_number t) hs) (fits_ascend (suc (row_number t x)) hs e.1)
      (λ y m.
      let k = map_member (row_number t) hs y m in
      let z = fits_from t list pick (suc (row_number t x)) hs e.1 k.k k.there in
      let q = k.is in
      omega arith)

pub none_long : (l : List ℕ) → length l ≡ 0 → l ≡ []
none_long [] e = refl
none_long (x ∷ l) e = absurd (let z : suc (length l) ≡ 0 = e in omega arith)

map_at : (f : ℕ → ℕ) (l : List ℕ) (i : ℕ) → i < length l → get_or (map f l) i 0 ≡ f (get_or l i 0)
map_at f [] i h = absurd (let z : i < 0 = h in omega arith)
map_at f (x ∷ l) zero h = refl
map_at f (x ∷ l) (suc i) h = map_at f l i (let z : suc i < suc (length l) = h in omega arith)

order_ascends : (f : ℕ → ℕ) (l : List ℕ) → ((i j : ℕ) → i < j → j < length l → f (get_or l i 0) < f (get_or l j 0)) → ascends (map f l) ≡ true
unfolding ascends
order_ascends f [] o = refl
order_ascends f (x ∷ l) o =
    ascends_cons (f x) (map f l)
    (order_ascends f l (λ i j a b. o (suc i) (suc j) (omega arith) (let z : suc (length l) ≡ length (x ∷ l) = refl in omega arith)))
    (λ y m.
    let k = map_member f l y m in
    let (i, b, e) = member_index k.k l k.there in
    let w = o 0 (suc i) (omega arith) (let z : suc (length l) ≡ length (x ∷ l) = refl in omega arith) in
    let v : f (get_or l i 0) ≡ y = ap f e ∙ k.is in
    omega arith)

fits_made : (t : List Row) (list pick : List ℕ) (from : ℕ) (hs : List ℕ) → ascends (map (row_number t) hs) ≡ true
    → ((h : ℕ) → member h hs ≡ true → from ≤ row_number t h)
    → ((h : ℕ) → member h hs ≡ true → FittingHash t list pick 0 h)
    → AllFits t list pick from hs
unfolding AllFits
fits_made t list pick from [] a f s = tt
fits_made t list pick from (x ∷ hs) a f s =
    let y = s x (member_here x hs) in (
      record { held_there = y.held_there; listed = y.listed; behind = f x (member_here x hs); with_it = y.with_it },
      fits_made t list pick (suc (row_number t x)) hs (ascends_tail (row_number t x) (map (row_number t) hs) a)
          (λ h m. ascends_first (row_number t x) (map (row_number t) hs) a (row_number t h) (member_map (row_number t) hs h m))
          (λ h m. s h (member_there h x hs m)),
    )

pub check_tells : CheckTells
unfolding goes_with empty_allowed
check_tells t list rowSizes budget pick = (tells, told)
  where
    tells : pick_checked t list rowSizes budget pick ≡ Ok tt → Acceptable t list rowSizes budget pick
    tells e =
        let a = accepts t list rowSizes budget pick e in
        record {
          each = a.each;
          listed = λ h m. ((fits_parts t list pick 0 pick a.fits h m).0, fits_listed t list pick 0 pick a.fits h m);
          ordered =
              λ i j l k.
              let long = length-map pick (row_number t) in
              let s = ascends_index (map (row_number t) pick) i j (fits_ascend t list pick 0 pick a.fits) l (omega arith) in
              let x = map_at (row_number t) pick i (omega arith) in
              let y = map_at (row_number t) pick j k in
              omega arith;
          together =
              λ h d m n l.
              either (not (member d list)) (member d pick)
              (every_member (λ d. not (member d list) || member d pick) (deps t h) (fits_parts t list pick 0 pick a.fits h m).1 d n)
              (λ x. absurd (true_false (member d list) l (not-true (member d list) x)))
              (λ x. x);
          small = a.small;
          some =
              λ n h m.
              not-true _ (every_member (λ g. not (pick_fits t list rowSizes budget (g ∷ []))) list (a.some (ap length n)) h m);
        }

    sound : Acceptable t list rowSizes budget pick → (from : ℕ) (hs : List ℕ) → ascends (map (row_number t) hs) ≡ true
        → ((h : ℕ) → member h hs ≡ true → from ≤ row_number t h)
        → ((h : ℕ) → member h hs ≡ true → member h pick ≡ true)
        → AllFits t list pick from hs
    sound a from hs o f i =
        fits_made t list pick from hs o f
        (λ h m.
        let p = i h m in
        record {
          held_there = (a.listed h p).0;
          listed = (a.listed h p).1;
          behind = omega arith;
          with_it =
              every_one (λ d. not (member d list) || member d pick) (deps t h)
              (λ d n.
              split (member d list)
              (λ l. or_right (not (member d list)) (member d pick) (a.together h d p n l))
              (λ l. or_left (not (member d list)) (member d pick) (ap not l)));
        })

    told : Acceptable t list rowSizes budget pick → pick_checked t list rowSizes budget pick ≡ Ok tt
    told a =
        accepted_is t list rowSizes budget pick
        (record {
          fits = sound a 0 pick (order_ascends (row_number t) pick a.ordered) (λ h m. omega arith) (λ h m. m);
          each = a.each;
          small = a.small;
          some =
              λ l.
              every_one (λ g. not (pick_fits t list rowSizes budget (g ∷ []))) list (λ h m. ap not (a.some (none_long pick l) h m));
        })
