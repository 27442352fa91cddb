-- What the public call writes, refusals in the order of 01 and, for 12, of 02, M-100: 4 and 6 for the change table, 12 for its index, 4 and 9 for the
-- waiting table, 4 (then 1) for a passed list, 4 for the resulting list; 7 comes last (`Written`).
use Rattle.std.specs.Prelude.{ℕ, cond, List, ltb, length}
use Rattle.table_index.specs.Index.{index_checked}
use Rattle.rules.specs.Hash.{hashes_at, hashes_bytes}
use Rattle.rules.specs.Output.{Output}
use Rattle.rules.specs.Passed.{passed_hashes, after_passed}
use Rattle.rules.specs.Sizes.{sizes}
use Rattle.rules.specs.declared.refusal.Refusal.TheVariants.{PastSize}
use Rattle.table.specs.TableBytes.{table_of}
use Rattle.table.specs.TableCalls.{after_check}
use Rattle.table.specs.Table.{Row}
use Rattle.waiting.specs.WaitingBytes.{waiting_of, waiting_checked}
use Rattle.waiting.specs.Waiting.{Waiting}
use Rattle.waiting_missing.specs.Missing.{missing}

-- What is missing from some hashes: 4 where that is more than a list may have.
unfoldable pub missing_of : List Row → List Waiting → List ℕ → Output
missing_of t w hs =
    cond (ltb sizes.hashes (length (missing t w hs)))
    (Output.refuse (PastSize 0))
    (Output.bytes (hashes_bytes (missing t w hs)))

-- What is missing from a list that is passed as bytes: 4 and 1 for the list come first.
unfoldable pub missing_from : List Row → List Waiting → List ℕ → Output
missing_from t w l = after_passed (passed_hashes l) Output.refuse (λ count. missing_of t w (hashes_at l 0 count))

-- After the change table: 4 and 9 for the waiting table.
unfoldable pub missing_beside : List Row → List ℕ → List ℕ → Output
missing_beside t w l = after_check (waiting_checked t w) (λ m. missing_from t (waiting_of w) l)

-- What `bt_missing` writes: the change table's refusals and its index's come first.
unfoldable pub missing_output : List ℕ → List ℕ → List ℕ → List ℕ → Output
missing_output s x w l = after_check (index_checked s x) (λ n. missing_beside (table_of s) w l)
