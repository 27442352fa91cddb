-- What the public calls write, refusals in the order of 01 and, for 12, of 02, M-100: 4 and 6 for the change table, 12 for its index, 11, 4 (then 1) for
-- a passed list; 7 comes last (`Written`).
use Rattle.std.specs.Prelude.{ℕ, cond, List, ltb, take}
use Rattle.rules.specs.Hash.{hashes_at, hashes_bytes}
use Rattle.rules.specs.Output.{Output}
use Rattle.rules.specs.Passed.{passed_hashes, after_passed}
use Rattle.rules.specs.declared.refusal.Refusal.TheVariants.{BadRowsBefore}
use Rattle.table_index.specs.Index.{index_checked}
use Rattle.table.specs.TableBytes.{table_of}
use Rattle.table.specs.TableCalls.{after_check}
use Rattle.table_graph.specs.Graph.{heads, beyond}

-- The heads of the first `before` rows of a table: 11 where the table has fewer.
unfoldable pub heads_output : List ℕ → List ℕ → ℕ → Output
heads_output s x before =
    after_check (index_checked s x)
    (λ n. cond (ltb n before) (Output.refuse BadRowsBefore) (Output.bytes (hashes_bytes (heads (take before (table_of s))))))

-- The rows beyond a list.
unfoldable pub beyond_output : List ℕ → List ℕ → List ℕ → Output
beyond_output s x l =
    after_check (index_checked s x)
    (λ n.
    after_passed (passed_hashes l)
    Output.refuse
    (λ count. Output.bytes (hashes_bytes (beyond (table_of s) (hashes_at l 0 count)))))
