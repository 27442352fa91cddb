-- The first have that was heard: the first record that is lent is the first of the kept ones, and its last-sync hashes stand in the lent bytes.
use Prim.Native.Nat.{ℕ, suc, ◌+◌, ◌-◌, ◌*◌, ◌≤◌, ◌<◌}
use mathlib.Core.Bool.{true, false, not}
use mathlib.Core.List.{List}
use mathlib.Core.Path.{◌≡◌, refl}
use native.Mathlib.Omega.{arith}
use lib.ListN.{length}
use Rattle.bloom.specs.Have.{have_count, sync_place, sync_count, have_in, haves_from, haves_of}
use Rattle.session_check.proofs.KeptLaws.{kept_place, kept_count, kept_each}
use Rattle.session_check.specs.SessionGood.{haves_good}
use Rattle.hash_order.specs.Order.{every}
use Rattle.rules.specs.Hash.{hashes_at}
use Rattle.rules.specs.Sizes.{sizes}
use Rattle.session.specs.Plan.{unknown_sync}
use Rattle.session_state.proofs.ValueLaws.{kept_records}
use Rattle.session_state.specs.Value.{kept_haves, heard_count, heard_haves}
use Rattle.table.specs.Table.{Row, held}
use Rattle.std.specs.Prelude.{Option, Some, None}

pub no_have_lem : (t : List Row) (s haves : List ℕ) (h : Option ℕ) → heard_count h ≡ 0 → false ≡ unknown_sync t (heard_haves s haves h)
unfolding heard_haves unknown_sync haves_of haves_from
no_have_lem t s haves None e = refl
no_have_lem t s haves (Some n) e = rw e

-- where there is one
module _ (s haves : List ℕ) where
  pub first_record : (h : Option ℕ) → haves_good s haves h ≡ true → (k : ℕ) → k ≡ heard_count h → (k ≡ 0 → ⊥) → 0 < have_count haves
  first_record None g k e f = absurd (f e)
  first_record (Some n) g k e f = omega (arith, (kept_each s haves n g).there)

  -- its last-sync hashes, where its words say
  module _ (place count : ℕ) (at : place ≡ sync_place haves 0) (many : count ≡ sync_count haves 0) where
    pub first_there : (h : Option ℕ) → haves_good s haves h ≡ true → (k : ℕ) → k ≡ heard_count h → (k ≡ 0 → ⊥) → place + sizes.hash * count ≤ length s
    first_there None g k e f = absurd (f e)
    first_there (Some n) g k e f = rw (at, many) ((kept_each s haves n g).each 0 (omega arith)).there

    pub first_decides : (t : List Row) (h : Option ℕ) → haves_good s haves h ≡ true → (k : ℕ) → k ≡ heard_count h → (k ≡ 0 → ⊥)
        → not (every (held t) (hashes_at s place count)) ≡ unknown_sync t (heard_haves s haves h)
    unfolding heard_haves unknown_sync haves_of haves_from have_in
    first_decides t None g k e f = absurd (f e)
    first_decides t (Some n) g k e f =
        let some : 0 < n = omega arith in
        let records : have_count (kept_haves haves n) ≡ suc (n - 1) = omega (arith, kept_records haves n (kept_each s haves n g).there) in
        rw (records, kept_place haves n 0 some, kept_count haves n 0 some, at, many)
