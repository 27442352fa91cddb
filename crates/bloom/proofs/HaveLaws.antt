-- A filter's tests, one law for each way through them, and what they say of a list of haves.
use Prim.Native.Nat.{ℕ, zero, suc, ◌+◌, ◌-◌, ◌*◌, ◌/◌, ◌%◌, ◌≤◌, ◌<◌, min}
use mathlib.Core.Bool.{Bool, true, false}
use mathlib.Core.List.{List, ◌∷◌, map}
use mathlib.Core.Path.{◌≡◌, refl, ap}
use native.Mathlib.Numerals.{add-one}
use native.Mathlib.Omega.{arith}
use borrow.Author.Tests.{lt-leb, le-leb, leb-true, eq-eqb, ne_eqb, eqb-true, eqb-false}
use lib.Dec.{leb, eqb}
use lib.ListN.{length}
use Rattle.rules.specs.Sizes.{sizes}
use Rattle.rules.proofs.Cases.{both, split}
use Rattle.bloom.specs.Filter.{Filter, filter_rules}
use Rattle.bloom.specs.Have.{
  have_words,
  have_count,
  numbers_in,
  sync_place,
  sync_count,
  filter_good,
  have_good,
  haves_good_from,
  passed_good,
  syncs_few,
  passed_few,
  GoodFilters,
  filter_with,
  filters_from,
  filters_of,
  Have,
  have_in,
  haves_from,
  haves_of,
}
use Rattle.bloom.specs.declared.have.FilterNumbers.{FilterNumbers}

-- ---- one filter

module _ (s : List ℕ) (f : FilterNumbers) where
  pub filter_broken : filter_rules f.entries f.bits f.probes f.size ≡ false → filter_good s f ≡ false
  unfolding filter_good
  filter_broken h = rw h

  pub filter_where : filter_rules f.entries f.bits f.probes f.size ≡ true
      → filter_good s f ≡ leb (f.place + f.size) (length s)
  unfolding filter_good
  filter_where h = rw h

-- ---- one have

module _ (s haves : List ℕ) (i : ℕ) where
  pub sync_many : (count : ℕ) → count ≡ sync_count haves i → length s / sizes.hash < count → have_good s haves i ≡ false
  unfolding have_good
  sync_many count many h =
      let long : length s < sync_place haves i + sizes.hash * sync_count haves i = omega arith in
      rw (lt-leb _ _ long)

  module _ (place count : ℕ) (at : place ≡ sync_place haves i) (many : count ≡ sync_count haves i) where
    pub sync_outside : leb (place + sizes.hash * count) (length s) ≡ false → have_good s haves i ≡ false
    unfolding have_good
    sync_outside e = rw (rw (at, many) at e)

    pub filter_decides : leb (place + sizes.hash * count) (length s) ≡ true → have_good s haves i ≡ filter_good s (numbers_in haves i)
    unfolding have_good
    filter_decides e = rw (rw (at, many) at e)

  -- what a good have has
  pub record HaveParts : Type 0 where
    pub there : sync_place haves i + sizes.hash * sync_count haves i ≤ length s
    pub filter : filter_good s (numbers_in haves i) ≡ true

  pub have_parts : have_good s haves i ≡ true → HaveParts
  unfolding have_good
  have_parts e =
      let p = both (leb (sync_place haves i + sizes.hash * sync_count haves i) (length s)) (filter_good s (numbers_in haves i)) e in
      record { there = leb-true _ _ p.0; filter = p.1 }

-- ---- a list of haves: refusal 10

module _ (s haves : List ℕ) where
  -- what the haves from record i on say
  pub testing : ℕ → ℕ → Bool
  testing total i = haves_good_from s haves i (total - i)

  pub testing_starts : (total : ℕ) → total ≡ min (have_count haves) sizes.haves → length haves % have_words ≡ 0
      → testing total 0 ≡ passed_good s haves
  unfolding testing passed_good
  testing_starts total t e =
      let d : total - 0 ≡ total = omega arith in
      rw (d, t, eq-eqb _ _ e)

  pub not_whole : (length haves % have_words ≡ 0 → ⊥) → passed_good s haves ≡ false
  unfolding passed_good
  not_whole h = rw (ne_eqb _ _ h)

  pub testing_fails : (total i : ℕ) → i < total → have_good s haves i ≡ false → testing total i ≡ false
  unfolding testing haves_good_from
  testing_fails total i l e =
      let d : total - i ≡ suc (total - (i + 1)) = omega arith in
      rw (d, e)

  pub testing_on : (total i : ℕ) → i < total → have_good s haves i ≡ true → testing total i ≡ testing total (i + 1)
  unfolding testing haves_good_from
  testing_on total i l e =
      let d : total - i ≡ suc (total - (i + 1)) = omega arith in
      rw (d, e, add-one)

  pub testing_ends : (total i : ℕ) → total ≤ i → testing total i ≡ true
  unfolding testing haves_good_from
  testing_ends total i l =
      let d : total - i ≡ 0 = omega arith in
      rw d

  each_good : (count i j : ℕ) → haves_good_from s haves i count ≡ true → i ≤ j → j < i + count → have_good s haves j ≡ true
  unfolding haves_good_from
  each_good zero i j e l h = absurd (omega arith)
  each_good (suc count) i j e l h =
      let parts = both (have_good s haves i) (haves_good_from s haves (suc i) count) e in
      split (eqb i j)
      (λ t. let q : i ≡ j = eqb-true _ _ t in rw q at parts.0)
      (λ t.
      let q : i ≡ j → ⊥ = eqb-false _ _ t in
      each_good count (suc i) j parts.1 (omega arith) (omega arith))

-- ---- a list of haves: refusal 4

module _ (haves : List ℕ) where
  -- what the last-sync counts from record i on say
  pub counting : ℕ → ℕ → Bool
  counting total i = syncs_few haves i (total - i)

  pub too_many : sizes.haves < have_count haves → passed_few haves ≡ false
  unfolding passed_few
  too_many h = rw (lt-leb _ _ h)

  pub counting_starts : (total : ℕ) → total ≡ have_count haves → total ≤ sizes.haves → counting total 0 ≡ passed_few haves
  unfolding counting passed_few
  counting_starts total t h =
      let d : total - 0 ≡ total = omega arith in
      let few : have_count haves ≤ sizes.haves = omega arith in
      rw (d, t, le-leb _ _ few)

  module _ (total i : ℕ) (here : i < total) (count : ℕ) (is : count ≡ sync_count haves i) where
    pub counting_fails : sizes.hashes < count → counting total i ≡ false
    unfolding counting syncs_few
    counting_fails h =
        let d : total - i ≡ suc (total - (i + 1)) = omega arith in
        let many : sizes.hashes < sync_count haves i = omega arith in
        rw (d, lt-leb _ _ many)

    pub counting_on : count ≤ sizes.hashes → counting total i ≡ counting total (i + 1)
    unfolding counting syncs_few
    counting_on h =
        let d : total - i ≡ suc (total - (i + 1)) = omega arith in
        let few : sync_count haves i ≤ sizes.hashes = omega arith in
        rw (d, le-leb _ _ few, add-one)

  pub counting_ends : (total i : ℕ) → total ≤ i → counting total i ≡ true
  unfolding counting syncs_few
  counting_ends total i l =
      let d : total - i ≡ 0 = omega arith in
      rw d

  each_few : (count i j : ℕ) → syncs_few haves i count ≡ true → i ≤ j → j < i + count → sync_count haves j ≤ sizes.hashes
  unfolding syncs_few
  each_few zero i j e l h = absurd (omega arith)
  each_few (suc count) i j e l h =
      let parts = both (leb (sync_count haves i) sizes.hashes) (syncs_few haves (suc i) count) e in
      split (eqb i j)
      (λ t.
      let q : i ≡ j = eqb-true _ _ t in
      let small : sync_count haves i ≤ sizes.hashes = leb-true _ _ parts.0 in
      rw q at small)
      (λ t.
      let q : i ≡ j → ⊥ = eqb-false _ _ t in
      each_few count (suc i) j parts.1 (omega arith) (omega arith))

-- ---- what haves have that are passed and accepted

pub record PassedHaves (s haves : List ℕ) : Type 0 where
  pub whole : length haves % have_words ≡ 0
  pub few : have_count haves ≤ sizes.haves
  pub each : (i : ℕ) → i < have_count haves → HaveParts s haves i
  pub syncs : (i : ℕ) → i < have_count haves → sync_count haves i ≤ sizes.hashes

pub passed_haves : (s haves : List ℕ) → passed_good s haves ≡ true → passed_few haves ≡ true → PassedHaves s haves
unfolding passed_good passed_few
passed_haves s haves e f =
    let p = both (eqb (length haves % have_words) 0) (haves_good_from s haves 0 (min (have_count haves) sizes.haves)) e in
    let q = both (leb (have_count haves) sizes.haves) (syncs_few haves 0 (have_count haves)) f in
    let few : have_count haves ≤ sizes.haves = leb-true _ _ q.0 in
    record {
      whole = eqb-true _ _ p.0;
      few = few;
      each = λ i h. have_parts s haves i (each_good s haves (min (have_count haves) sizes.haves) 0 i p.1 (omega arith) (omega arith));
      syncs = λ i h. each_few haves (have_count haves) 0 i q.1 (omega arith) (omega arith);
    }

pub good_filters : (s haves : List ℕ) → PassedHaves s haves → GoodFilters s haves
good_filters s haves p = record { each = λ i h. (p.each i h).filter }

-- ---- haves as values

filters_from_lem : (s haves : List ℕ) (count i : ℕ) → map (λ (h : Have). h.filter) (haves_from s haves i count) ≡ filters_from s haves i count
unfolding haves_from filters_from have_in
filters_from_lem s haves zero i = refl
filters_from_lem s haves (suc count) i = ap (λ (l : List Filter). filter_with s (numbers_in haves i) ∷ l) (filters_from_lem s haves count (suc i))

pub filters_of_haves : (s haves : List ℕ) → map (λ (h : Have). h.filter) (haves_of s haves) ≡ filters_of s haves
unfolding haves_of filters_of
filters_of_haves s haves = filters_from_lem s haves (have_count haves) 0
