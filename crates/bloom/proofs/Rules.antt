-- The filter rules taken apart and put together: the tests of `filter_rules` as facts about the numbers, one law for each way to keep or to break
-- them; the size of a field, which has a bit for every entry and fits 64 bits; and the pairs of bits and probes that keep them over any rows of a table.
use Prim.Native.Nat.{ℕ, ◌*◌, ◌≤◌, ◌<◌}
use mathlib.Core.Bool.{true, false, ◌&&◌, ◌||◌}
use mathlib.Core.Path.{◌≡◌, refl, sym, ◌∙◌}
use native.Mathlib.Nat.{mul-le-mul, le-mul_of_pos_right}
use native.Mathlib.Omega.{arith}
use borrow.Author.Tests.{ltb-true, ltb-false, leb-true, eqb-true, lt-ltb, le-ltb, le-leb, lt-leb, eq-eqb, ne_eqb}
use lib.Dec.{ltb, leb, eqb}
use Rattle.rules.specs.Sizes.{sizes}
use Rattle.rules.proofs.Cases.{split, both, other}
use Rattle.leb128.specs.Number.{most_filter}
use Rattle.bloom.specs.Filter.{field_size, filter_rules, default_bits, default_probes, SettingGood, most_bits, pair_good}

-- ---- the size of a field

pub product_most : (n b : ℕ) → n ≤ most_filter → b ≤ most_filter → n * b ≤ most_filter * most_filter
product_most n b h g = mul-le-mul h g

pub capacity_covers : (n b : ℕ) → 0 < b → n ≤ 8 * field_size n b
unfolding field_size
capacity_covers n b h = omega (arith, le-mul_of_pos_right n h)

pub capacity_none : (b : ℕ) → field_size 0 b ≡ 0
unfolding field_size
capacity_none b = omega arith

-- ---- breaking the rules

module _ (n b p m : ℕ) where
  pub past_entries : most_filter < n → filter_rules n b p m ≡ false
  unfolding filter_rules
  past_entries h = rw (lt-leb _ _ h)

  module _ (fn : n ≤ most_filter) where
    pub past_bits : most_filter < b → filter_rules n b p m ≡ false
    unfolding filter_rules
    past_bits h = rw (le-leb _ _ fn, lt-leb _ _ h)

    module _ (fb : b ≤ most_filter) where
      pub past_probes : most_filter < p → filter_rules n b p m ≡ false
      unfolding filter_rules
      past_probes h = rw (le-leb _ _ fn, le-leb _ _ fb, lt-leb _ _ h)

      module _ (fp : p ≤ most_filter) where
        pub other_size : (m ≡ field_size n b → ⊥) → filter_rules n b p m ≡ false
        unfolding filter_rules
        other_size h = rw (le-leb _ _ fn, le-leb _ _ fb, le-leb _ _ fp, ne_eqb _ _ h)

        module _ (same : m ≡ field_size n b) where
          pub no_entries : n ≡ 0 → filter_rules n b p m ≡ true
          unfolding filter_rules
          no_entries h = rw (le-leb _ _ fn, le-leb _ _ fb, le-leb _ _ fp, eq-eqb _ _ same, eq-eqb _ _ h)

          module _ (some : n ≡ 0 → ⊥) where
            pub no_bits : b ≡ 0 → filter_rules n b p m ≡ false
            unfolding filter_rules
            no_bits h =
                let none : b ≤ 0 = omega arith in
                rw (le-leb _ _ fn, le-leb _ _ fb, le-leb _ _ fp, eq-eqb _ _ same, ne_eqb _ _ some, le-ltb _ _ none)

            module _ (bits : 0 < b) where
              pub many_probes : sizes.probes < p → filter_rules n b p m ≡ false
              unfolding filter_rules
              many_probes h =
                  rw (le-leb _ _ fn, le-leb _ _ fb, le-leb _ _ fp, eq-eqb _ _ same, ne_eqb _ _ some, lt-ltb _ _ bits, lt-leb _ _ h)

              pub last_rule : p ≤ sizes.probes → filter_rules n b p m ≡ leb m sizes.field
              unfolding filter_rules
              last_rule h =
                  rw (le-leb _ _ fn, le-leb _ _ fb, le-leb _ _ fp, eq-eqb _ _ same, ne_eqb _ _ some, lt-ltb _ _ bits, le-leb _ _ h)

-- ---- keeping them

-- What the rules say where there are entries.
pub record Full (b p m : ℕ) : Type 0 where
  pub some_bits : 0 < b
  pub few_probes : p ≤ sizes.probes
  pub small : m ≤ sizes.field
  pub some : 0 < m

-- What the rules say.
pub record Ruled (n b p m : ℕ) : Type 0 where
  pub entries : n ≤ most_filter
  pub bits : b ≤ most_filter
  pub probes : p ≤ most_filter
  pub size : m ≡ field_size n b
  pub full : 0 < n → Full b p m

-- That a field has a byte follows from the rest.
pub full_of : (n b p m : ℕ) → 0 < n → 0 < b → p ≤ sizes.probes → m ≡ field_size n b → m ≤ sizes.field → Full b p m
full_of n b p m some bits few same small =
    record { some_bits = bits; few_probes = few; small = small; some = omega (arith, capacity_covers n b bits) }

pub ruled : (n b p m : ℕ) → filter_rules n b p m ≡ true → Ruled n b p m
unfolding filter_rules
ruled n b p m e =
    let numbers = leb n most_filter && (leb b most_filter && leb p most_filter) in
    let tests = ltb 0 b && (leb p sizes.probes && leb m sizes.field) in
    let top = both numbers (eqb m (field_size n b) && (eqb n 0 || tests)) e in
    let first = both (leb n most_filter) (leb b most_filter && leb p most_filter) top.0 in
    let second = both (leb b most_filter) (leb p most_filter) first.1 in
    let sized = both (eqb m (field_size n b)) (eqb n 0 || tests) top.1 in
    let same : m ≡ field_size n b = eqb-true _ _ sized.0 in
    record {
      entries = leb-true _ _ first.0;
      bits = leb-true _ _ second.0;
      probes = leb-true _ _ second.1;
      size = same;
      full =
          λ h.
          let t = other (eqb n 0) tests sized.1 (ne_eqb n 0 (omega arith)) in
          let l = both (ltb 0 b) (leb p sizes.probes && leb m sizes.field) t in
          let r = both (leb p sizes.probes) (leb m sizes.field) l.1 in
          full_of n b p m h (ltb-true _ _ l.0) (leb-true _ _ r.0) same (leb-true _ _ r.1);
    }

-- The way back: without entries, with entries, and from all that the rules say.
pub rules_none : (b p : ℕ) → b ≤ most_filter → p ≤ most_filter → filter_rules 0 b p 0 ≡ true
rules_none b p h g = no_entries 0 b p 0 (omega arith) h g (sym (capacity_none b)) refl

pub rules_full : (n b p m : ℕ)
    → 0 < n → n ≤ most_filter → 0 < b → b ≤ most_filter → p ≤ sizes.probes → m ≡ field_size n b → m ≤ sizes.field
    → filter_rules n b p m ≡ true
rules_full n b p m some fn bits fb fp same small =
    last_rule n b p m fn fb (omega arith) same (omega arith) bits fp ∙ le-leb _ _ small

pub rules : (n b p m : ℕ) → Ruled n b p m → filter_rules n b p m ≡ true
rules n b p m r =
    split (ltb 0 n)
    (λ t.
    let some : 0 < n = ltb-true _ _ t in
    let f = r.full some in
    rules_full n b p m some r.entries f.some_bits r.bits f.few_probes r.size f.small)
    (λ t.
    let none : n ≤ 0 = ltb-false _ _ t in
    no_entries n b p m r.entries r.bits r.probes r.size (omega arith))

-- ---- pairs that may be built with

-- Bits 1 to 32 leave the field within its size, 4 bytes an entry at the most.
field_small : (n b : ℕ) → n ≤ sizes.rows → b ≤ most_bits → field_size n b ≤ sizes.field
unfolding field_size
field_small n b h g =
    let z : n * b ≤ sizes.rows * most_bits = mul-le-mul h g in
    omega arith

-- 02, M-107: such bits with at most 64 probes keep the rules over any rows of a table.
pub pair_good_lem : (b p : ℕ) → 1 ≤ b → b ≤ most_bits → p ≤ sizes.probes → SettingGood b p
pair_good_lem b p some few probes =
    record {
      each = λ n h.
          split (ltb 0 n)
          (λ t. rules_full n b p (field_size n b) (ltb-true _ _ t) (omega arith) (omega arith) (omega arith) probes refl (field_small n b h few))
          (λ t.
          let none : n ≤ 0 = ltb-false _ _ t in
          no_entries n b p (field_size n b) (omega arith) (omega arith) (omega arith) refl (omega arith));
    }

-- No others do: over a whole table the rules say as much.
pub keeps_setting : (b p : ℕ) → SettingGood b p → pair_good b p ≡ true
unfolding pair_good field_size
keeps_setting b p good =
    let r = (ruled sizes.rows b p (field_size sizes.rows b) (good.each sizes.rows (omega arith))).full (omega arith) in
    rw (lt-ltb _ _ r.some_bits, le-leb b most_bits (omega (arith, r.small)), le-leb _ _ r.few_probes)

pub setting_keeps : (b p : ℕ) → pair_good b p ≡ true → SettingGood b p
unfolding pair_good
setting_keeps b p e =
    let l = both (ltb 0 b) (leb b most_bits && leb p sizes.probes) e in
    let r = both (leb b most_bits) (leb p sizes.probes) l.1 in
    pair_good_lem b p (ltb-true _ _ l.0) (leb-true _ _ r.0) (leb-true _ _ r.1)

-- The test, by what decides it.
module _ (b p : ℕ) where
  pub pair_none : b ≡ 0 → pair_good b p ≡ false
  unfolding pair_good
  pair_none e = rw (le-ltb 0 b (omega arith))

  module _ (some : 0 < b) where
    pub pair_many : most_bits < b → pair_good b p ≡ false
    unfolding pair_good
    pair_many h = rw (lt-ltb 0 b some, lt-leb b most_bits h)

    pub pair_by_probes : b ≤ most_bits → pair_good b p ≡ leb p sizes.probes
    unfolding pair_good
    pair_by_probes h = rw (lt-ltb 0 b some, le-leb b most_bits h)

-- The default's 10 and 7 are such a pair.
pub default_good : SettingGood default_bits default_probes
default_good = pair_good_lem default_bits default_probes (omega arith) (omega arith) (omega arith)
