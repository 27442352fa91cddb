-- Totals: what a test of each sum tells of all; totals are the sums of the lines, whatever the order of the captures, and none passes 64 bits.
use Prim.Native.Nat.{ℕ, suc, ◌+◌, ◌-◌, ◌≤◌}
use mathlib.Core.Bool.{Bool, true, false, not, ◌||◌}
use mathlib.Core.List.{List, [], ◌∷◌, map}
use mathlib.Core.Path.{◌≡◌, refl, sym, ap, ap₂, ◌∙◌}
use native.Mathlib.Omega.{arith}
use borrow.Author.Tests.{ltb-true, ltb-false, lt-ltb, le-ltb, not-true}
use lib.Dec.{ltb}
use lib.ListN.{length}
use Rattle.bloom_probe.proofs.FieldLaws.{added_contained}
use Rattle.bloom_probe.specs.Contains.{contains}
use Rattle.hash_order.proofs.KeepLaws.{keep_member, keep_most, keep_none}
use Rattle.hash_order.specs.Order.{member}
use Rattle.rules.proofs.Cases.{split, both, true_false}
use Rattle.rules.specs.declared.refusal.Refusal.TheVariants.{PastTotal}
use Rattle.table.specs.Table.{Row, rows, held}
use Rattle.counts.proofs.BitLaws.{set_most}
use Rattle.counts.specs.Captures.{outside, capture_counts}
use Rattle.counts.specs.Totals.{nothing, sum, most_total, passes, added_to, Capture, captured, line_for, line_of, totals_with, lines_from, totals_from, sum_of, Reordered, same, swap, behind, again, sum_over, M108}
use Rattle.counts.specs.declared.totals.Counts.{Counts}
use Rattle.std.specs.Prelude.{Result, Ok, Err}
use Rattle.rules.specs.declared.refusal.Refusal.{Refusal}

-- ---- the test of a sum

pub total_past : (a b : ℕ) → a ≤ most_total → ltb (most_total - a) b ≡ ltb most_total (a + b)
total_past a b h =
    split (ltb (most_total - a) b)
    (λ e. e ∙ sym (lt-ltb most_total (a + b) (let z = ltb-true (most_total - a) b e in omega arith)))
    (λ e. e ∙ sym (le-ltb most_total (a + b) (let z = ltb-false (most_total - a) b e in omega arith)))

module _ (t a : Counts) where
  pub past_first : ltb most_total (t.entries + a.entries) ≡ true → true ≡ passes (sum t a)
  unfolding passes sum
  past_first e = rw e

  module _ (p : ltb most_total (t.entries + a.entries) ≡ false) where
    pub past_second : ltb most_total (t.field_bits + a.field_bits) ≡ true → true ≡ passes (sum t a)
    unfolding passes sum
    past_second e = rw (p, e)

    module _ (q : ltb most_total (t.field_bits + a.field_bits) ≡ false) where
      pub past_third : ltb most_total (t.set_bits + a.set_bits) ≡ true → true ≡ passes (sum t a)
      unfolding passes sum
      past_third e = rw (p, q, e)

      module _ (r : ltb most_total (t.set_bits + a.set_bits) ≡ false) where
        pub past_fourth : ltb most_total (t.tested + a.tested) ≡ true → true ≡ passes (sum t a)
        unfolding passes sum
        past_fourth e = rw (p, q, r, e)

        pub past_fifth : ltb most_total (t.tested + a.tested) ≡ false → ltb most_total (t.contained + a.contained) ≡ passes (sum t a)
        unfolding passes sum
        past_fifth e = rw (p, q, r, e)

  pub added_past : passes (sum t a) ≡ true → Err PastTotal ≡ added_to t a
  unfolding added_to
  added_past e = rw e

  pub made : passes (sum t a) ≡ false
      → Ok (record {
        entries = t.entries + a.entries;
        field_bits = t.field_bits + a.field_bits;
        set_bits = t.set_bits + a.set_bits;
        tested = t.tested + a.tested;
        contained = t.contained + a.contained;
      })
      ≡ added_to t a
  unfolding added_to sum
  made e = rw e

-- Each sum is within, if none passes.
pub record TotalsWithin (a : Counts) : Type 0 where
  pub entries : a.entries ≤ most_total
  pub field_bits : a.field_bits ≤ most_total
  pub set_bits : a.set_bits ≤ most_total
  pub tested : a.tested ≤ most_total
  pub contained : a.contained ≤ most_total

none_of : (x y : Bool) → (x || y) ≡ false → (x ≡ false) × (y ≡ false)
none_of true y e = absurd (let z : ◌≡◌ {A = ℕ} 0 1 = cc in omega arith)
none_of false y e = (refl, e)

pub sums_within : (a : Counts) → passes a ≡ false → TotalsWithin a
unfolding passes
sums_within a e =
    let p = none_of _ _ e in
    let q = none_of _ _ p.1 in
    let r = none_of _ _ q.1 in
    let s = none_of _ _ r.1 in
    record {
      entries = ltb-false _ _ p.0;
      field_bits = ltb-false _ _ q.0;
      set_bits = ltb-false _ _ r.0;
      tested = ltb-false _ _ s.0;
      contained = ltb-false _ _ s.1;
    }

-- each of two counts' sums
pub sum_fits : (t a : Counts) → passes (sum t a) ≡ false
    → (t.entries + a.entries ≤ most_total)
    × (t.field_bits + a.field_bits ≤ most_total)
    × (t.set_bits + a.set_bits ≤ most_total)
    × (t.tested + a.tested ≤ most_total)
    × (t.contained + a.contained ≤ most_total)
unfolding sum
sum_fits t a e = let w = sums_within (sum t a) e in (w.entries, w.field_bits, w.set_bits, w.tested, w.contained)

pub within_sums : (a : Counts) → TotalsWithin a → passes a ≡ false
unfolding passes
within_sums a w =
    rw (le-ltb _ _ w.entries, le-ltb _ _ w.field_bits, le-ltb _ _ w.set_bits, le-ltb _ _ w.tested, le-ltb _ _ w.contained)

-- ---- sums

made_same : (a a' b b' c c' d d' e e' : ℕ) → a ≡ a' → b ≡ b' → c ≡ c' → d ≡ d' → e ≡ e'
    → ◌≡◌ {A = Counts} (record { entries = a; field_bits = b; set_bits = c; tested = d; contained = e })
    (record { entries = a'; field_bits = b'; set_bits = c'; tested = d'; contained = e' })
made_same a a' b b' c c' d d' e e' p q r s u =
    ap₂ (λ (x y : ℕ). record { entries = x; field_bits = y; set_bits = c; tested = d; contained = e }) p q
    ∙ ap₂ (λ (x y : ℕ). record { entries = a'; field_bits = b'; set_bits = x; tested = y; contained = e }) r s
    ∙ ap (λ (x : ℕ). record { entries = a'; field_bits = b'; set_bits = c'; tested = d'; contained = x }) u

pub sum_nothing : (a : Counts) → sum a nothing ≡ a
unfolding sum
sum_nothing a = made_same _ _ _ _ _ _ _ _ _ _ (omega arith) (omega arith) (omega arith) (omega arith) (omega arith)

pub sum_first : (a : Counts) → sum nothing a ≡ a
unfolding sum
sum_first a = made_same _ _ _ _ _ _ _ _ _ _ (omega arith) (omega arith) (omega arith) (omega arith) (omega arith)

pub sum_assoc : (a b c : Counts) → sum (sum a b) c ≡ sum a (sum b c)
unfolding sum
sum_assoc a b c = made_same _ _ _ _ _ _ _ _ _ _ (omega arith) (omega arith) (omega arith) (omega arith) (omega arith)

sum_swap : (a b c : Counts) → sum a (sum b c) ≡ sum b (sum a c)
unfolding sum
sum_swap a b c = made_same _ _ _ _ _ _ _ _ _ _ (omega arith) (omega arith) (omega arith) (omega arith) (omega arith)

-- ---- lines and totals

added_sum : (t : Counts) (l : Result Counts Refusal) (ls : List (Result Counts Refusal)) → sum (totals_with t l) (sum_of ls) ≡ sum t (sum_of (l ∷ ls))
unfolding totals_with sum_of
added_sum t (Ok a) ls = sum_assoc t a (sum_of ls)
added_sum t (Err r) ls = refl

pub sums_from : (t : Counts) (cs : List Capture) → totals_from t cs ≡ sum t (sum_of (lines_from t cs))
unfolding totals_from lines_from sum_of
sums_from t [] = sym (sum_nothing t)
sums_from t (c ∷ cs) =
    sums_from (totals_with t (line_of t c)) cs ∙ added_sum t (line_of t c) (lines_from (totals_with t (line_of t c)) cs)

pub lines_long : (t : Counts) (cs : List Capture) → length (lines_from t cs) ≡ length cs
unfolding lines_from
lines_long t [] = refl
lines_long t (c ∷ cs) = ap suc (lines_long (totals_with t (line_of t c)) cs)

line_within : (t : Counts) (l : Result Counts Refusal) → passes t ≡ false → passes (totals_with t (line_for t l)) ≡ false
unfolding line_for totals_with
line_within t (Err r) e = e
line_within t (Ok a) e = split (passes (sum t a)) (λ x. rw x e) (λ x. rw x x)

pub totals_within : (t : Counts) (cs : List Capture) → passes t ≡ false → passes (totals_from t cs) ≡ false
unfolding totals_from
totals_within t [] e = e
totals_within t (c ∷ cs) e = totals_within (totals_with t (line_of t c)) cs (line_within t (captured c) e)

-- ---- any order

-- a part of sums that don't pass doesn't pass
part_within : (t a b : Counts) → passes (sum t (sum a b)) ≡ false → passes (sum t a) ≡ false
unfolding sum
part_within t a b e =
    let w = sums_within (sum t (sum a b)) e in
    within_sums (sum t a)
    (record {
      entries = omega (arith, w.entries);
      field_bits = omega (arith, w.field_bits);
      set_bits = omega (arith, w.set_bits);
      tested = omega (arith, w.tested);
      contained = omega (arith, w.contained);
    })

good_step : (t : Counts) (l : Result Counts Refusal) (ls : List (Result Counts Refusal)) → passes (sum t (sum_of (l ∷ ls))) ≡ false
    → sum (totals_with t (line_for t l)) (sum_of ls) ≡ sum t (sum_of (l ∷ ls))
unfolding line_for totals_with sum_of
good_step t (Err r) ls e = refl
good_step t (Ok a) ls e = rw (part_within t a (sum_of ls) e) (sum_assoc t a (sum_of ls))

pub good_sums : (t : Counts) (cs : List Capture) → passes (sum t (sum_over cs)) ≡ false → totals_from t cs ≡ sum t (sum_over cs)
unfolding totals_from sum_of
good_sums t [] e = sym (sum_nothing t)
good_sums t (c ∷ cs) e =
    let step = good_step t (captured c) (map captured cs) e in
    good_sums (totals_with t (line_of t c)) cs (rw (sym step) at e) ∙ step

reordered_sums : {cs ds : List Capture} → Reordered cs ds → sum_over cs ≡ sum_over ds
unfolding sum_of
reordered_sums same = refl
reordered_sums (swap {a} {b} {cs}) = swapped (captured a) (captured b) (map captured cs)
  where
    swapped : (x y : Result Counts Refusal) (ls : List (Result Counts Refusal)) → sum_of (x ∷ y ∷ ls) ≡ sum_of (y ∷ x ∷ ls)
    swapped (Ok x) (Ok y) ls = sum_swap x y (sum_of ls)
    swapped (Ok x) (Err r) ls = refl
    swapped (Err r) (Ok y) ls = refl
    swapped (Err r) (Err q) ls = refl
reordered_sums (behind {a} {cs} {ds} r) = behind_same (captured a) (map captured cs) (map captured ds) (reordered_sums r)
  where
    behind_same : (x : Result Counts Refusal) (ls ks : List (Result Counts Refusal)) → sum_of ls ≡ sum_of ks → sum_of (x ∷ ls) ≡ sum_of (x ∷ ks)
    behind_same (Ok x) ls ks e = ap (sum x) e
    behind_same (Err q) ls ks e = e
reordered_sums (again p q) = reordered_sums p ∙ reordered_sums q

-- ---- all of it

none_outside : (t : List Row) → outside t t ≡ []
unfolding outside held
none_outside t = keep_none (λ h. not (member h (rows t))) (rows t) (λ h m. ap not m)

-- a row that is tested isn't held by the sender
outside_unheld : (a b : List Row) (h : ℕ) → member h (outside a b) ≡ true → held a h ≡ false
unfolding outside
outside_unheld a b h m = not-true _ (both (not (held a h)) (member h (rows b)) (sym (keep_member (λ x. not (held a x)) (rows b) h) ∙ m)).0

pub m108 : M108
unfolding capture_counts
m108 =
    record {
      sums = λ cs. sums_from nothing cs ∙ sum_first (sum_of (lines_from nothing cs));
      lines = λ cs. lines_long nothing cs;
      within = λ cs. totals_within nothing cs none_passes;
      good = λ cs e. good_all cs e;
      order = λ cs ds r e.
          let same-sums = reordered_sums r in
          good_all ds (rw same-sums at e) ∙ sym same-sums ∙ sym (good_all cs e);
      few = λ a b f. keep_most (contains f) (outside a b);
      bits = λ a b f. set_most f.field;
      none = λ t f. ap length (none_outside t);
      built = λ b p hs some h m. added_contained b p hs h some m;
      apart = λ a b hs f h m.
          split (member h hs) (λ e. absurd (true_false (held a h) (f h e) (outside_unheld a b h m))) (λ e. e);
    }
  where
    none_passes : passes nothing ≡ false
    none_passes = within_sums nothing (record { entries = omega arith; field_bits = omega arith; set_bits = omega arith; tested = omega arith; contained = omega arith })

    good_all : (cs : List Capture) → passes (sum_over cs) ≡ false → totals_from nothing cs ≡ sum_over cs
    good_all cs e = good_sums nothing cs (rw (sum_first (sum_over cs)) e) ∙ sum_first (sum_over cs)
