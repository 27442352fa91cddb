-- How a waiting table is checked: each law is one way through the tests, with the tests as hypotheses.
use Prim.Native.Nat.{ℕ, ◌*◌, ◌/◌, ◌%◌, ◌≤◌, ◌<◌}
use mathlib.Core.List.{List}
use mathlib.Core.Path.{◌≡◌, sym}
use native.Mathlib.Omega.{arith}
use lib.ListN.{length}
use Rattle.rules.specs.Sizes.{sizes}
use Rattle.rules.specs.declared.refusal.Refusal.{Refusal}
use Rattle.rules.specs.declared.refusal.Refusal.TheVariants.{PastSize, BadWaitingRow}
use Rattle.table.specs.TableBytes.{first_bad}
use Rattle.table.specs.Table.{Row}
use Rattle.table.proofs.CheckLaws.{check_past, check_bad, check_partial, check_good}
use Rattle.waiting.specs.WaitingBytes.{waiting_size, waiting_checked_of, waiting_checked, Sorted, InOrder}
use Rattle.waiting.proofs.Today.{waiting_good}
use Rattle.std.specs.Prelude.{Ok, Err}

module _ (t : List Row) (s : List ℕ) where
  pub waiting_past : sizes.waiting_rows * waiting_size < length s → waiting_checked t s ≡ Err (PastSize 0)
  unfolding waiting_checked_of
  waiting_past h = check_past _ (waiting_good t s) waiting_size sizes.waiting_rows (length s) h

  module _ (few : length s ≤ sizes.waiting_rows * waiting_size) where
    pub waiting_bad : (r : ℕ) → r ≡ first_bad (waiting_good t s) 0 (length s / waiting_size) → r < length s / waiting_size
        → waiting_checked t s ≡ Err (BadWaitingRow r)
    unfolding waiting_checked_of
    waiting_bad r e h = check_bad _ (waiting_good t s) waiting_size sizes.waiting_rows (length s) few r e h

    module _ (r : ℕ) (e : r ≡ first_bad (waiting_good t s) 0 (length s / waiting_size)) (none : length s / waiting_size ≤ r) where
      pub waiting_partial : (length s % waiting_size ≡ 0 → ⊥) → waiting_checked t s ≡ Err (BadWaitingRow (length s / waiting_size))
      unfolding waiting_checked_of
      waiting_partial h = check_partial _ (waiting_good t s) waiting_size sizes.waiting_rows (length s) few r e none h

      pub waiting_fine : length s % waiting_size ≡ 0 → waiting_checked t s ≡ Ok (length s / waiting_size)
      unfolding waiting_checked_of
      waiting_fine h = check_good _ (waiting_good t s) waiting_size sizes.waiting_rows (length s) few r e none h

  -- ---- the check that leaves the rows in order

  module _ (o : List ℕ) where
    pub refused_in_order : (r : Refusal) → waiting_checked t s ≡ Err r → InOrder t s o (Err r)
    refused_in_order r e =
        record {
          answer = sym e;
          sorted =
              λ m q.
              let z : ◌≡◌ {A = ℕ} 0 1 = cc in
              absurd (omega arith);
        }

    pub good_in_order : (n : ℕ) → waiting_checked t s ≡ Ok n → Sorted s o n → InOrder t s o (Ok n)
    good_in_order n e h =
        record {
          answer = sym e;
          sorted =
              λ m q.
              let same : n ≡ m = cc in
              rw same at h;
        }
