-- What is reached is the least set that holds its base and is closed under its steps. It satisfies its own equation, whatever the steps are,
-- cycles too: a set that doesn't grow in a step is final, and it can grow only as often as there are numbers. Where every step goes down, it is
-- the only set that satisfies the equation.
use Prim.Native.Nat.{ℕ, zero, suc, ◌-◌, ◌≤◌, ◌<◌}
use mathlib.Core.Bool.{Bool, true, false, cond, ◌||◌, ◌&&◌}
use mathlib.Core.Logic.{◌⊎◌, inl, inr, ⊎_elim}
use mathlib.Core.Path.{◌≡◌, refl, sym, ap, subst, ◌∙◌}
use native.Mathlib.Nat.{not-suc-le-zero}
use native.Mathlib.Omega.{arith}
use borrow.Author.Tests.{ltb-true, ltb-false}
use lib.Dec.{ltb}
use Rattle.hash_order.specs.Reach.{some_below, reach_in, reach}
use Rattle.rules.proofs.Cases.{split, both, true_false, either, or_left, or_right, and_true, and_false}

-- What holds below n and of n holds below the next number.
pub below_suc : (P : ℕ → Type 0) (n : ℕ) → ((k : ℕ) → k < n → P k) → P n → (k : ℕ) → k < suc n → P k
below_suc P n f z k h =
    split (ltb k n) (λ e. f k (ltb-true k n e))
    (λ e.
    let q : n ≡ k = omega (arith, ltb-false k n e) in
    subst P q z)

-- ---- some number below n

pub some_below_lem : (n : ℕ) (p : ℕ → Bool) (k : ℕ) → k < n → p k ≡ true → some_below n p ≡ true
unfolding some_below
some_below_lem zero p k h e = absurd (not-suc-le-zero h)
some_below_lem (suc n) p k h e =
    split (p n) (λ q. rw q)
    (λ q. rw q (below_suc (λ j. p j ≡ true → some_below n p ≡ true) n (some_below_lem n p) (λ r. absurd (true_false (p n) r q)) k h e))

pub some_witness : (n : ℕ) (p : ℕ → Bool) → some_below n p ≡ true → record { k : ℕ; less : k < n; is : p k ≡ true }
unfolding some_below
some_witness zero p e = absurd (true_false false e refl)
some_witness (suc n) p e =
    either (p n) (some_below n p) e (λ q. record { k = n; less = omega arith; is = q })
    (λ q.
    let w = some_witness n p q in
    record { k = w.k; less = omega arith; is = w.is })

pub none_below : (n : ℕ) (p : ℕ → Bool) (k : ℕ) → some_below n p ≡ false → k < n → p k ≡ false
none_below n p k e h = split (p k) (λ q. absurd (true_false _ (some_below_lem n p k h q) e)) (λ q. q)

pub same_below : (n : ℕ) (p q : ℕ → Bool) → ((k : ℕ) → k < n → p k ≡ q k) → some_below n p ≡ some_below n q
unfolding some_below
same_below zero p q f = refl
same_below (suc n) p q f = rw (f n (omega arith), same_below n p q (λ k h. f k (omega arith)))

-- ---- how many numbers below n

count : ℕ → (ℕ → Bool) → ℕ
count zero x = 0
count (suc n) x = cond (x n) (suc (count n x)) (count n x)

count_most : (n : ℕ) (x : ℕ → Bool) → count n x ≤ n
unfolding count
count_most zero x = omega arith
count_most (suc n) x =
    let h = count_most n x in
    split (x n) (λ e. rw e (omega arith)) (λ e. rw e (omega arith))

-- A set with as many numbers as there are has all of them.
count_all : (n : ℕ) (x : ℕ → Bool) → n ≤ count n x → (k : ℕ) → k < n → x k ≡ true
unfolding count
count_all zero x f k h = absurd (not-suc-le-zero h)
count_all (suc n) x f k h =
    split (x n)
    (λ e.
    let g : suc n ≤ suc (count n x) = rw e at f in
    below_suc (λ j. x j ≡ true) n (count_all n x (omega arith)) e k h)
    (λ e.
    let g : suc n ≤ count n x = rw e at f in
    absurd (omega (arith, count_most n x)))

-- A set inside another has fewer numbers, or they are the same.
module _ (x y : ℕ → Bool) where
  grows : (n : ℕ) → ((k : ℕ) → k < n → x k ≡ true → y k ≡ true)
      → record { most : count n x ≤ count n y; more : (count n x < count n y) ⊎ ((k : ℕ) → k < n → y k ≡ x k) }
  unfolding count
  grows zero f = record { most = omega arith; more = inr (λ k h. absurd (not-suc-le-zero h)) }
  grows (suc n) f = step (x n) (y n) refl refl (grows n (λ k h. f k (omega arith)))
    where
      step : (a b : Bool) → x n ≡ a → y n ≡ b
          → record { most : count n x ≤ count n y; more : (count n x < count n y) ⊎ ((k : ℕ) → k < n → y k ≡ x k) }
          → record {
            most : cond a (suc (count n x)) (count n x) ≤ cond b (suc (count n y)) (count n y);
            more : (cond a (suc (count n x)) (count n x) < cond b (suc (count n y)) (count n y)) ⊎ ((k : ℕ) → k < suc n → y k ≡ x k);
          }
      step true true p q r =
          record {
            most = omega arith;
            more = ⊎_elim (λ l. inl (omega arith)) (λ s. inr (below_suc (λ k. y k ≡ x k) n s (q ∙ sym p))) r.more;
          }
      step true false p q r = absurd (true_false (y n) (f n (omega arith) p) q)
      step false true p q r = record { most = omega (arith, r.most); more = inl (omega (arith, r.most)) }
      step false false p q r =
          record {
            most = r.most;
            more = ⊎_elim (λ l. inl l) (λ s. inr (below_suc (λ k. y k ≡ x k) n s (q ∙ sym p))) r.more;
          }

-- ---- what is reached

module _ (n : ℕ) (from : ℕ → Bool) (to : ℕ → ℕ → Bool) where
  -- one step more
  reach_step : (s i : ℕ) → reach_in (suc s) n from to i ≡ (from i || some_below n (λ k. reach_in s n from to k && to k i))
  unfolding reach_in
  reach_step s i = refl

  longer : (s i : ℕ) → reach_in s n from to i ≡ true → reach_in (suc s) n from to i ≡ true
  unfolding reach_in
  longer zero i e = absurd (true_false false e refl)
  longer (suc s) i e =
      either (from i) _ e (λ q. or_left (from i) _ q)
      (λ q.
      let w = some_witness n (λ k. reach_in s n from to k && to k i) q in
      let b = both (reach_in s n from to w.k) (to w.k i) w.is in
      or_right (from i) _ (some_below_lem n _ w.k w.less (and_true _ _ (longer s w.k b.0) b.1)))

  -- a step that adds nothing is followed by none that does
  abbrev Final : ℕ → Type 0
  Final s = (i : ℕ) → i < n → reach_in (suc s) n from to i ≡ reach_in s n from to i

  final_next : (s : ℕ) → Final s → Final (suc s)
  final_next s f i h =
      reach_step (suc s) i
      ∙ ap (λ (b : Bool). from i || b) (same_below n _ _ (λ k l. ap (λ (b : Bool). b && to k i) (f k l)))
      ∙ sym (reach_step s i)

  -- each step adds a number, or all that follow add none
  adds : (s : ℕ) → (s ≤ count n (reach_in s n from to)) ⊎ Final s
  adds zero = inl (omega arith)
  adds (suc s) =
      ⊎_elim
      (λ l.
      ⊎_elim (λ m. inl (omega arith)) (λ e. inr (final_next s e))
      (grows (reach_in s n from to) (reach_in (suc s) n from to) n (λ k h. longer s k)).more)
      (λ e. inr (final_next s e))
      (adds s)

  final : Final n
  final =
      ⊎_elim
      (λ l i h.
      let all = count_all n (reach_in n n from to) l i h in
      longer n i all ∙ sym all)
      (λ f. f)
      (adds n)

  pub reach_equation : (i : ℕ) → i < n → reach n from to i ≡ (from i || some_below n (λ k. reach n from to k && to k i))
  unfolding reach
  reach_equation i h = sym (final i h) ∙ reach_step n i

  pub reach_base : (i : ℕ) → i < n → from i ≡ true → reach n from to i ≡ true
  reach_base i h e = reach_equation i h ∙ or_left (from i) _ e

  pub reach_closed : (k i : ℕ) → k < n → i < n → reach n from to k ≡ true → to k i ≡ true → reach n from to i ≡ true
  reach_closed k i h l p q = reach_equation i l ∙ or_right (from i) _ (some_below_lem n _ k h (and_true _ _ p q))

  -- what holds of the base and passes along the steps holds of all that is reached
  module _ (P : ℕ → Type 0)
      (base : (i : ℕ) → i < n → from i ≡ true → P i)
      (step : (k i : ℕ) → k < n → i < n → P k → to k i ≡ true → P i) where
    least_in : (s i : ℕ) → i < n → reach_in s n from to i ≡ true → P i
    unfolding reach_in
    least_in zero i h e = absurd (true_false false e refl)
    least_in (suc s) i h e =
        either (from i) _ e (base i h)
        (λ q.
        let w = some_witness n (λ k. reach_in s n from to k && to k i) q in
        let b = both (reach_in s n from to w.k) (to w.k i) w.is in
        step w.k i w.less h (least_in s w.k w.less b.0) b.1)

    pub reach_least : (i : ℕ) → i < n → reach n from to i ≡ true → P i
    unfolding reach
    reach_least i h e = least_in n i h e

  -- where steps go down, what satisfies the equation is what is reached
  pub reach_unique : ((k i : ℕ) → k < n → to k i ≡ true → i < k)
      → (x : ℕ → Bool)
      → ((i : ℕ) → i < n → x i ≡ (from i || some_below n (λ k. x k && to k i)))
      → (i : ℕ) → i < n → x i ≡ reach n from to i
  reach_unique down x e i h = go n i h (omega arith)
    where
      go : (d i : ℕ) → i < n → n - i ≤ d → x i ≡ reach n from to i
      go zero i l m = absurd (omega arith)
      go (suc d) i l m =
          e i l
          ∙ ap (λ (b : Bool). from i || b)
          (same_below n _ _
          (λ k f.
          split (to k i) (λ q. let less = down k i f q in ap (λ (b : Bool). b && to k i) (go d k f (omega arith)))
          (λ q. rw q (and_false (x k) ∙ sym (and_false (reach n from to k))))))
          ∙ sym (reach_equation i l)

-- two bases and two kinds of steps that agree below n reach the same numbers
module _ (n : ℕ) (f g : ℕ → Bool) (to tow : ℕ → ℕ → Bool)
    (base : (k : ℕ) → k < n → f k ≡ g k)
    (step : (k i : ℕ) → k < n → i < n → to k i ≡ tow k i) where
  same_in : (s i : ℕ) → i < n → reach_in s n f to i ≡ reach_in s n g tow i
  unfolding reach_in
  same_in zero i h = refl
  same_in (suc s) i h =
      let rest =
      same_below n (λ k. reach_in s n f to k && to k i) (λ k. reach_in s n g tow k && tow k i)
      (λ k l. ap (λ (b : Bool). b && to k i) (same_in s k l) ∙ ap (λ (b : Bool). reach_in s n g tow k && b) (step k i l h))
      in
      ap (λ (b : Bool). b || some_below n (λ k. reach_in s n f to k && to k i)) (base i h)
      ∙ ap (λ (b : Bool). g i || b) rest

  pub reach_same : (i : ℕ) → i < n → reach n f to i ≡ reach n g tow i
  unfolding reach
  reach_same i h = same_in n i h
