-- Kept haves record by record: the test of the records that are kept says the same of them where they stand in the lent list.
use Prim.Native.Nat.{ℕ, zero, suc, ◌+◌, ◌*◌, ◌%◌, ◌≤◌, ◌<◌, min}
use mathlib.Core.Bool.{true}
use mathlib.Core.List.{List}
use mathlib.Core.Path.{◌≡◌, refl}
use native.Mathlib.Omega.{arith}
use borrow.Author.Tests.{le-leb, eq-eqb}
use lib.ListN.{length, get_or}
use lib.Seq.{get_or-take, length-take-le}
use Rattle.bloom.specs.Have.{have_words, have_count, numbers_in, sync_place, sync_count, have_good, haves_good_from, passed_good, syncs_few, passed_few}
use Rattle.bloom.proofs.HaveLaws.{HaveParts}
use Rattle.rules.specs.Sizes.{sizes}
use Rattle.session_state.specs.Value.{kept_haves}
use Rattle.session_check.specs.SessionGood.{haves_good}
use Rattle.session_check.proofs.GoodSessions.{haves_parts}
use Rattle.std.specs.Prelude.{Some}

-- ---- a record

module _ (haves : List ℕ) (n i : ℕ) (inside : i < n) where
  word : (k : ℕ) → k < have_words → get_or (kept_haves haves n) (i * have_words + k) 0 ≡ get_or haves (i * have_words + k) 0
  word k h = get_or-take (have_words * n) haves (i * have_words + k) 0 (omega arith)

  pub kept_place : sync_place (kept_haves haves n) i ≡ sync_place haves i
  kept_place = get_or-take (have_words * n) haves (i * have_words) 0 (omega arith)

  pub kept_count : sync_count (kept_haves haves n) i ≡ sync_count haves i
  kept_count = word 1 (omega arith)

  pub kept_numbers : numbers_in (kept_haves haves n) i ≡ numbers_in haves i
  kept_numbers = rw (word 2 (omega arith), word 3 (omega arith), word 4 (omega arith), word 5 (omega arith), word 6 (omega arith))

-- ---- all of them

-- As many as there may be, all lent, each a have with no more last-sync hashes than a list may have.
pub record KeptEach (s haves : List ℕ) (count : ℕ) : Type 0 where
  pub few : count ≤ sizes.haves
  pub there : have_words * count ≤ length haves
  pub each : (i : ℕ) → i < count → HaveParts s haves i
  pub syncs : (i : ℕ) → i < count → sync_count haves i ≤ sizes.hashes

pub kept_each : (s haves : List ℕ) (count : ℕ) → haves_good s haves (Some count) ≡ true → KeptEach s haves count
kept_each s haves count e =
    let p = haves_parts s haves count e in
    record {
      few = p.few;
      there = p.there;
      each =
          λ i h.
          let part = p.passed.each i (omega (arith, p.records)) in
          record {
            there = rw (kept_place haves count i h, kept_count haves count i h) at part.there;
            filter = rw (kept_numbers haves count i h) at part.filter;
          };
      syncs = λ i h. rw (kept_count haves count i h) at (p.passed.syncs i (omega (arith, p.records)));
    }

all_good : (s haves : List ℕ) (count i : ℕ) → ((j : ℕ) → j < i + count → have_good s haves j ≡ true) → haves_good_from s haves i count ≡ true
unfolding haves_good_from
all_good s haves zero i f = refl
all_good s haves (suc count) i f = rw (f i (omega arith)) (all_good s haves count (suc i) (λ j h. f j (omega arith)))

all_few : (haves : List ℕ) (count i : ℕ) → ((j : ℕ) → j < i + count → sync_count haves j ≤ sizes.hashes) → syncs_few haves i count ≡ true
unfolding syncs_few
all_few haves zero i f = refl
all_few haves (suc count) i f = rw (le-leb _ _ (f i (omega arith))) (all_few haves count (suc i) (λ j h. f j (omega arith)))

module _ (s haves : List ℕ) (count : ℕ) (k : KeptEach s haves count) where
  kept_good : (i : ℕ) → i < count → have_good s (kept_haves haves count) i ≡ true
  unfolding have_good
  kept_good i h =
      rw (kept_place haves count i h, kept_count haves count i h, kept_numbers haves count i h, le-leb _ _ (k.each i h).there) (k.each i h).filter

  kept_few : (i : ℕ) → i < count → sync_count (kept_haves haves count) i ≤ sizes.hashes
  kept_few i h = rw (kept_count haves count i h) (k.syncs i h)

  pub each_kept : haves_good s haves (Some count) ≡ true
  unfolding haves_good passed_good passed_few
  each_kept =
      let kept : List ℕ = kept_haves haves count in
      let long : length kept ≡ have_words * count = length-take-le (have_words * count) haves k.there in
      let whole : length kept % have_words ≡ 0 = omega arith in
      let many : have_count kept ≡ count = omega arith in
      let most : min count sizes.haves ≡ count = omega (arith, k.few) in
      rw (le-leb _ _ k.few, le-leb _ _ k.there, many, eq-eqb _ _ whole, most, le-leb _ _ k.few, all_good s kept count 0 (λ j h. kept_good j (omega arith)), all_few kept count 0 (λ j h. kept_few j (omega arith)))
