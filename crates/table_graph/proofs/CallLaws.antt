-- What the public calls write, one law for each way through the tests.
use Prim.Native.Nat.{ℕ, ◌≤◌, ◌<◌}
use mathlib.Core.List.{List}
use mathlib.Core.Path.{◌≡◌}
use borrow.Author.Tests.{lt-ltb, le-ltb}
use Rattle.rules.specs.Hash.{hashes_at, hashes_bytes}
use Rattle.rules.specs.Output.{Output}
use Rattle.rules.specs.Passed.{passed_hashes}
use Rattle.rules.specs.declared.refusal.Refusal.{Refusal}
use Rattle.rules.specs.declared.refusal.Refusal.TheVariants.{BadRowsBefore}
use Rattle.rules.proofs.PassedLaws.{after_refused, after_hashes}
use Rattle.table_index.specs.Index.{index_checked}
use Rattle.table_index.proofs.CheckLaws.{checked_table}
use Rattle.table.specs.TableBytes.{rows_at}
use Rattle.table.specs.TableCalls.{after_check}
use Rattle.table.proofs.TableLaws.{table_good, take_rows_at}
use Rattle.table_graph.specs.GraphCalls.{beyond_output, heads_output}
use Rattle.table_graph.specs.Graph.{heads, beyond}
use Rattle.std.specs.Prelude.{Ok, Err}

-- ---- the rows beyond a list

module _ (s x l : List ℕ) where
  pub beyond_refused : (r : Refusal) → index_checked s x ≡ Err r → beyond_output s x l ≡ Output.refuse r
  unfolding beyond_output after_check
  beyond_refused r e = rw e

  module _ (n : ℕ) (good : index_checked s x ≡ Ok n) where
    pub beyond_no_list : (r : Refusal) → passed_hashes l ≡ Err r → beyond_output s x l ≡ Output.refuse r
    unfolding beyond_output after_check
    beyond_no_list r e = rw good (after_refused _ _ _ r e)

    pub beyond_written : (count : ℕ) → passed_hashes l ≡ Ok count
        → beyond_output s x l ≡ Output.bytes (hashes_bytes (beyond (rows_at s 0 n) (hashes_at l 0 count)))
    unfolding beyond_output after_check
    beyond_written count e = rw (good, (table_good s n (checked_table s x n good)).is) (after_hashes _ _ _ count e)

-- ---- heads

module _ (s x : List ℕ) (before : ℕ) where
  pub heads_refused : (r : Refusal) → index_checked s x ≡ Err r → heads_output s x before ≡ Output.refuse r
  unfolding heads_output after_check
  heads_refused r e = rw e

  module _ (n : ℕ) (good : index_checked s x ≡ Ok n) where
    pub heads_many_lem : n < before → heads_output s x before ≡ Output.refuse BadRowsBefore
    unfolding heads_output after_check
    heads_many_lem h = rw (good, lt-ltb _ _ h)

    pub heads_written : before ≤ n → heads_output s x before ≡ Output.bytes (hashes_bytes (heads (rows_at s 0 before)))
    unfolding heads_output after_check
    heads_written h = rw (good, le-ltb _ _ h, (table_good s n (checked_table s x n good)).is, take_rows_at s 0 before n h)
