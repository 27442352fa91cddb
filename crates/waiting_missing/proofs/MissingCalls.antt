-- What the call for missing hashes writes: one law for each way out, with the code's tests as hypotheses.
use Prim.Native.Nat.{ℕ, ◌+◌, ◌≤◌, ◌<◌}
use mathlib.Core.List.{List}
use mathlib.Core.Path.{◌≡◌}
use native.Mathlib.Omega.{arith}
use borrow.Author.Tests.{lt-ltb, le-ltb}
use lib.ListN.{length}
use Rattle.hash_refs.specs.Internal.Refs.{found_by}
use Rattle.rules.specs.Hash.{hashes_at, hashes_bytes}
use Rattle.rules.specs.Output.{Output, Written}
use Rattle.rules.specs.Passed.{passed_hashes}
use Rattle.rules.specs.Sizes.{sizes}
use Rattle.rules.specs.declared.refusal.Refusal.{Refusal}
use Rattle.rules.specs.declared.refusal.Refusal.TheVariants.{PastSize}
use Rattle.rules.proofs.Outputs.{refused}
use Rattle.rules.proofs.PassedLaws.{after_refused, after_hashes}
use Rattle.table_index.specs.Index.{index_checked}
use Rattle.table_index.proofs.CheckLaws.{checked_table}
use Rattle.table.specs.TableBytes.{rows_at}
use Rattle.table.specs.TableCalls.{after_check}
use Rattle.table.specs.Table.{Row}
use Rattle.table.proofs.TableLaws.{table_good}
use Rattle.waiting.specs.WaitingBytes.{waiting_of, waiting_checked}
use Rattle.waiting.specs.Waiting.{Waiting}
use Rattle.waiting_missing.specs.Internal.Take.{RefsFound}
use Rattle.waiting_missing.specs.MissingCalls.{missing_of, missing_from, missing_beside, missing_output}
use Rattle.waiting_missing.specs.Missing.{missing}
use Rattle.waiting_missing.specs.declared.missing.FoundCount.{FoundCount}
use Rattle.waiting_missing.proofs.FoundLaws.{found_many, refs_many, refs_all}
use Rattle.std.specs.Prelude.{Result, Ok, Err}

-- ---- a list that was found

module _ (t : List Row) (w : List Waiting) (l out : List ℕ) where
  pub no_list_lem : (r : Refusal) → passed_hashes l ≡ Err r → Written (missing_from t w l) out out (Err r)
  unfolding missing_from
  no_list_lem r e = rw (after_refused Output.refuse (λ n. missing_of t w (hashes_at l 0 n)) _ r e) (refused r out)

  module _ {n : ℕ} (e : passed_hashes l ≡ Ok n) where
    from_list : missing_from t w l ≡ missing_of t w (hashes_at l 0 n)
    unfolding missing_from
    from_list = after_hashes _ _ _ n e

    module _ {further refs : List ℕ} {found : FoundCount} (room : length refs ≡ sizes.hashes + 1)
        (f : RefsFound l 0 n further (missing t w (hashes_at l 0 n)) refs found) where
      pub too_many : sizes.hashes < found.all → Written (missing_from t w l) out out (Err (PastSize 0))
      unfolding missing_of
      too_many h =
          let many : sizes.hashes < length (missing t w (hashes_at l 0 n)) = omega (arith, room, refs_many f (omega (arith, room, f.found.room))) in
          rw (from_list, lt-ltb _ _ many) (refused _ _)

      pub few_enough : {out' : List ℕ} {r : Result ℕ Refusal} → found.all ≤ sizes.hashes
          → Written (Output.bytes (hashes_bytes (found_by l 0 n further refs found.all))) out out' r
          → Written (missing_from t w l) out out' r
      unfolding missing_of
      few_enough h v =
          let is : found_by l 0 n further refs found.all ≡ missing t w (hashes_at l 0 n) = refs_all f (omega (arith, room)) in
          let few : length (missing t w (hashes_at l 0 n)) ≤ sizes.hashes = rw (← is) (omega (arith, found_many f)) in
          rw (from_list, le-ltb _ _ few) (rw is at v)

-- ---- after the checks

module _ (t : List Row) (w l out : List ℕ) where
  pub beside_refused : (r : Refusal) → waiting_checked t w ≡ Err r → Written (missing_beside t w l) out out (Err r)
  unfolding missing_beside after_check
  beside_refused r e = rw e (refused r out)

  pub beside_good : (m : ℕ) {out' : List ℕ} {r : Result ℕ Refusal} → waiting_checked t w ≡ Ok m → Written (missing_from t (waiting_of w) l) out out' r
      → Written (missing_beside t w l) out out' r
  unfolding missing_beside after_check
  beside_good m e v = rw e v

module _ (s x w l out : List ℕ) where
  pub call_refused : (r : Refusal) → index_checked s x ≡ Err r → Written (missing_output s x w l) out out (Err r)
  unfolding missing_output after_check
  call_refused r e = rw e (refused r out)

  pub call_good : (n : ℕ) {out' : List ℕ} {r : Result ℕ Refusal} → index_checked s x ≡ Ok n → Written (missing_beside (rows_at s 0 n) w l) out out' r
      → Written (missing_output s x w l) out out' r
  unfolding missing_output after_check
  call_good n e v = rw (e, (table_good s n (checked_table s x n e)).is) v
