-- The kept rows are those that 02's sentence says, and no others: only kept rows below a row matter to it, and the kept ones of the first rows stay when
-- more rows follow.
use Prim.Native.Nat.{ℕ, zero, suc, ◌+◌, ◌-◌, ◌≤◌, ◌<◌}
use mathlib.Core.Bool.{Bool, true, false, cond, not, ◌&&◌, ◌||◌}
use mathlib.Core.List.{List, [], ◌∷◌, ◌++◌, map, append-nil}
use mathlib.Core.Option.{Option, none, some}
use mathlib.Core.Path.{◌≡◌, refl, sym, ap, ap₂, ◌∙◌}
use native.Mathlib.Omega.{arith}
use borrow.Author.Tests.{eqb-false, eqb-true, eq-eqb, ne_eqb, ltb-true, ltb-false, lt-ltb, le-ltb, le-leb, lt-leb}
use lib.Dec.{ltb, leb, eqb}
use Rattle.hash_order.proofs.KeepLaws.{keep_member, keep_all, keep_append, keep_none, every_member, every_one}
use Rattle.hash_order.proofs.OrderLaws.{member_none, member_here, member_there, member_append, ascends_tail, ascends_first, ascends_cons}
use Rattle.hash_order.specs.Order.{member, keep, every, ascends}
use Rattle.rules.proofs.Cases.{split, both, true_false, same_truth, either}
use Rattle.rules.specs.Zeros.{zeros}
use Rattle.table.specs.TableBytes.{count_of, used_of, unused_of, numbers_good}
use Rattle.salvage_rules.specs.KeptRows.{Rule, row_hash, broken_rule, kept_if, kept_of, IsKept}

-- ---- lists that grow at their end

pub only_one : (a b : ℕ) → member a (b ∷ []) ≡ true → a ≡ b
unfolding member
only_one a b m = either (eqb a b) false m (λ k. eqb-true a b k) (λ k. absurd (true_false false k refl))

pub ascends_end : (l : List ℕ) (h : ℕ) → ascends l ≡ true → ((x : ℕ) → member x l ≡ true → x < h) → ascends (l ++ h ∷ []) ≡ true
unfolding ascends
ascends_end [] h a e = refl
ascends_end (x ∷ l) h a e =
    ascends_cons x (l ++ h ∷ []) (ascends_end l h (ascends_tail x l a) (λ y m. e y (member_there y x l m)))
    (λ y m.
    either (member y l) (member y (h ∷ [])) (sym (member_append y l (h ∷ [])) ∙ m)
    (λ k. ascends_first x l a y k)
    (λ k. let z = e x (member_here x l) in let q = only_one y h k in omega arith))

abbrev pub is_none : {A : Type 0} → Option A → Bool
is_none none = true
is_none (some a) = false

if_member : (r : Option Rule) (i j : ℕ) → member j (kept_if r i) ≡ (is_none r && eqb j i)
unfolding member
if_member none i j = or_none (eqb j i)
  where
    or_none : (b : Bool) → (b || false) ≡ b
    or_none true = refl
    or_none false = refl
if_member (some r) i j = refl

module _ (d : ℕ) (s : List ℕ) where
  abbrev K : ℕ → List ℕ
  K n = kept_of d s n

  kept_step : (n j : ℕ) → member j (K (suc n)) ≡ (member j (K n) || (is_none (broken_rule d s (K n) n) && eqb j n))
  unfolding kept_of
  kept_step n j = member_append j (K n) _ ∙ ap (λ (b : Bool). member j (K n) || b) (if_member (broken_rule d s (K n) n) n j)

  pub kept_inside : (n j : ℕ) → member j (K n) ≡ true → j < n
  unfolding kept_of
  kept_inside zero j m = absurd (member_none j m)
  kept_inside (suc n) j m =
      either (member j (K n)) (is_none (broken_rule d s (K n) n) && eqb j n) (sym (kept_step n j) ∙ m)
      (λ k. let z = kept_inside n j k in omega arith)
      (λ k. let z = eqb-true j n (both (is_none (broken_rule d s (K n) n)) (eqb j n) k).1 in omega arith)

  pub kept_ascends : (n : ℕ) → ascends (K n) ≡ true
  unfolding kept_of ascends
  kept_ascends zero = refl
  kept_ascends (suc n) = grown (broken_rule d s (K n) n) (kept_ascends n)
    where
      grown : (r : Option Rule) → ascends (K n) ≡ true → ascends (K n ++ kept_if r n) ≡ true
      grown none a = ascends_end (K n) n a (kept_inside n)
      grown (some r) a = ap ascends (append-nil (K n)) ∙ a

  -- the kept ones below i are those of the first i rows
  pub kept_first : (i j n : ℕ) → n ≡ j + i → keep (λ k. ltb k i) (K n) ≡ K i
  unfolding kept_of keep
  kept_first i zero n e =
      let z : n ≡ i = omega arith in
      rw z (keep_all (λ k. ltb k i) (K i) (every_one (λ k. ltb k i) (K i) (λ k m. lt-ltb k i (kept_inside i k m))))
  kept_first i (suc j) zero e = absurd (omega arith)
  kept_first i (suc j) (suc n) e =
      keep_append (λ k. ltb k i) (K n) _ ∙ ap₂ (λ (a b : List ℕ). a ++ b) (kept_first i j n (omega arith)) (past (broken_rule d s (K n) n)) ∙ append-nil (K i)
    where
      past : (r : Option Rule) → keep (λ k. ltb k i) (kept_if r n) ≡ []
      past none = rw (le-ltb n i (omega arith))
      past (some r) = refl

  -- row i is kept just if it broke no rule
  pub kept_is : (i j n : ℕ) → n ≡ j + suc i → member i (K n) ≡ is_none (broken_rule d s (K i) i)
  kept_is i j zero e = absurd (omega arith)
  kept_is i zero (suc n) e =
      let z : n ≡ i = omega arith in
      ap (λ (m : ℕ). member i (K (suc m))) z
      ∙ kept_step i i
      ∙ ap (λ (b : Bool). b || (is_none (broken_rule d s (K i) i) && eqb i i)) (out i)
      ∙ ap (λ (b : Bool). is_none (broken_rule d s (K i) i) && b) (eq-eqb i i refl)
      ∙ and_one (is_none (broken_rule d s (K i) i))
    where
      out : (i : ℕ) → member i (K i) ≡ false
      out i = split (member i (K i)) (λ m. absurd (let z = kept_inside i i m in omega arith)) (λ m. m)

      and_one : (b : Bool) → (b && true) ≡ b
      and_one true = refl
      and_one false = refl
  kept_is i (suc j) (suc n) e =
      kept_step n i
      ∙ ap₂ (λ (a b : Bool). a || (is_none (broken_rule d s (K n) n) && b)) (kept_is i j n (omega arith)) (ne_eqb i n (λ q. omega arith))
      ∙ or_none (is_none (broken_rule d s (K i) i)) (is_none (broken_rule d s (K n) n))
    where
      or_none : (a b : Bool) → (a || (b && false)) ≡ a
      or_none true b = refl
      or_none false true = refl
      or_none false false = refl

  -- the tests of a row beside kept ones
  abbrev pub sound : ℕ → Bool
  sound i = (leb (count_of d s i) d && numbers_good i (used_of d s i)) && zeros (unused_of d s i)

  abbrev pub new : List ℕ → ℕ → Bool
  new kept i = not (member (row_hash d s i) (map (row_hash d s) kept))

  abbrev pub has : List ℕ → ℕ → Bool
  has kept i = every (λ k. member k kept) (used_of d s i)

  cascade : (a b c r h : Bool) (a' : Bool) → a' ≡ not a
      → is_none (cond a (some Rule.count) (cond (not b) (some Rule.numbers) (cond (not c) (some Rule.not_zero) (cond r (some Rule.repeated) (cond (not h) (some Rule.lost) none)))))
      ≡ (((a' && b) && c) && (not r && h))
  cascade true b c r h a' e = rw e
  cascade false false c r h a' e = rw e
  cascade false true false r h a' e = rw e
  cascade false true true true h a' e = rw e
  cascade false true true false false a' e = rw e
  cascade false true true false true a' e = rw e

  leb_not : (x y : ℕ) → leb x y ≡ not (ltb y x)
  leb_not x y = split (ltb y x) (λ e. rw (e, lt-leb x y (ltb-true y x e))) (λ e. rw (e, le-leb x y (ltb-false y x e)))

  pub broken_tests : (kept : List ℕ) (i : ℕ) → is_none (broken_rule d s kept i) ≡ (sound i && (new kept i && has kept i))
  unfolding broken_rule
  broken_tests kept i =
      cascade (ltb d (count_of d s i)) (numbers_good i (used_of d s i)) (zeros (unused_of d s i)) (member (row_hash d s i) (map (row_hash d s) kept)) (has kept i)
      (leb (count_of d s i) d) (leb_not (count_of d s i) d)

  -- a sound row's numbers are below it
  pub used_below : (i : ℕ) → sound i ≡ true → (k : ℕ) → member k (used_of d s i) ≡ true → k < i
  unfolding numbers_good
  used_below i e k m =
      let g = (both (leb (count_of d s i) d) (numbers_good i (used_of d s i)) (both _ _ e).0).1 in
      ltb-true k i (every_member (λ k. ltb k i) (used_of d s i) (both (ascends (used_of d s i)) (every (λ k. ltb k i) (used_of d s i)) g).1 k m)

  pub every_same : (p q : ℕ → Bool) (l : List ℕ) → ((k : ℕ) → member k l ≡ true → p k ≡ q k) → every p l ≡ every q l
  every_same p q l f =
      same_truth (every p l) (every q l)
      (λ e. every_one q l (λ k m. sym (f k m) ∙ every_member p l e k m))
      (λ e. every_one p l (λ k m. f k m ∙ every_member q l e k m))

  -- so only kept rows below it matter
  tests_same : (kept whole : List ℕ) (i : ℕ) → ((k : ℕ) → k < i → member k kept ≡ member k whole)
      → (sound i && (new kept i && has kept i)) ≡ (sound i && (new kept i && has whole i))
  tests_same kept whole i f =
      split (sound i)
      (λ e. ap (λ (b : Bool). sound i && (new kept i && b)) (every_same (λ k. member k kept) (λ k. member k whole) (used_of d s i) (λ k m. f k (used_below i e k m))))
      (λ e. rw e)

  below_member : (l : List ℕ) (i k : ℕ) → k < i → member k (keep (λ j. ltb j i) l) ≡ member k l
  below_member l i k h = keep_member (λ j. ltb j i) l k ∙ rw (lt-ltb k i h)

  pub is_kept : (n : ℕ) → IsKept d s n (K n)
  is_kept n =
      record {
        ascending = kept_ascends n;
        inside = kept_inside n;
        exactly =
            λ i h.
            let first : keep (λ k. ltb k i) (K n) ≡ K i = kept_first i (n - i) n (omega arith) in
            kept_is i (n - suc i) n (omega arith)
            ∙ broken_tests (K i) i
            ∙ tests_same (K i) (K n) i (λ k l. ap (member k) (sym first) ∙ below_member (K n) i k l)
            ∙ ap (λ (l : List ℕ). sound i && (new l i && has (K n) i)) (sym first);
      }

  -- ---- and no other list is

  module _ (n : ℕ) (L : List ℕ) (is : IsKept d s n L) where
    -- one more number of an ascending list
    keep_step : (l : List ℕ) (i : ℕ) → ascends l ≡ true → keep (λ k. ltb k (suc i)) l ≡ keep (λ k. ltb k i) l ++ cond (member i l) (i ∷ []) []
    unfolding keep member
    keep_step [] i a = refl
    keep_step (x ∷ l) i a =
        split (ltb x i)
        (λ e.
        let less = ltb-true x i e in
        rw (e, lt-ltb x (suc i) (omega arith), ne_eqb i x (λ q. omega arith)) (ap (λ (m : List ℕ). x ∷ m) (keep_step l i (ascends_tail x l a))))
        (λ e.
        let more = ltb-false x i e in
        let none : keep (λ k. ltb k i) l ≡ [] = keep_nothing l (λ k m. le-ltb k i (let z = ascends_first x l a k m in omega arith)) in
        let none' : keep (λ k. ltb k (suc i)) l ≡ [] = keep_nothing l (λ k m. le-ltb k (suc i) (let z = ascends_first x l a k m in omega arith)) in
        split (eqb i x)
        (λ q. let same = eqb-true i x q in rw (e, q, none, none', lt-ltb x (suc i) (omega arith), sym same))
        (λ q.
        let gone : member i l ≡ false = split (member i l) (λ m. absurd (let z = ascends_first x l a i m in omega arith)) (λ m. m) in
        rw (e, q, none, none', gone, le-ltb x (suc i) (let z : i ≡ x → ⊥ = eqb-false i x q in apart more z))))
      where
        keep_nothing : {p : ℕ → Bool} (l : List ℕ) → ((k : ℕ) → member k l ≡ true → p k ≡ false) → keep p l ≡ []
        keep_nothing {p} l f = keep_none p l f

        apart : i ≤ x → (i ≡ x → ⊥) → suc i ≤ x
        apart a b = split (ltb i x) (λ e. ltb-true i x e) (λ e. absurd (b (let z = ltb-false i x e in omega arith)))

    same_up_to : (i : ℕ) → i ≤ n → keep (λ k. ltb k i) L ≡ K i
    unfolding kept_of
    same_up_to zero h = keep_none (λ k. ltb k 0) L (λ k m. le-ltb k 0 (omega arith))
    same_up_to (suc i) h =
        let ih = same_up_to i (omega arith) in
        let m : member i L ≡ is_none (broken_rule d s (K i) i) =
        is.exactly i (omega arith)
        ∙ ap (λ (l : List ℕ). sound i && (new l i && has L i)) ih
        ∙ sym (tests_same (K i) L i (λ k l. ap (member k) (sym ih) ∙ below_member L i k l))
        ∙ sym (broken_tests (K i) i)
        in
        keep_step L i is.ascending
        ∙ ap₂ (λ (a : List ℕ) (b : Bool). a ++ cond b (i ∷ []) []) ih m
        ∙ ap (λ (l : List ℕ). K i ++ l) (as_if (broken_rule d s (K i) i))
      where
        as_if : (r : Option Rule) → cond (is_none r) (i ∷ []) [] ≡ kept_if r i
        as_if none = refl
        as_if (some r) = refl

    pub kept_one : L ≡ K n
    kept_one = sym (keep_all (λ k. ltb k n) L (every_one (λ k. ltb k n) L (λ k m. lt-ltb k n (is.inside k m)))) ∙ same_up_to n (omega arith)
