-- What the public calls answer. 02, M-110: 4 and 6 for the change table, 12 for its index, 4 and 1 for the list, which may be as long as the hashes to send,
-- 4 and 1 for the pick; 17; 7 comes last (`Written`).
use Rattle.std.specs.Prelude.{ℕ, cond, not, List, eqb, length, Result, Ok, Err}
use Rattle.rules.specs.Hash.{hashes_at, hashes_bytes}
use Rattle.rules.specs.Output.{Output}
use Rattle.rules.specs.Passed.{passed_up_to, passed_hashes, after_passed}
use Rattle.rules.specs.Sizes.{sizes}
use Rattle.rules.specs.declared.refusal.Refusal.TheVariants.{BadPick}
use Rattle.table_index.specs.Index.{index_checked}
use Rattle.table.specs.TableBytes.{table_of}
use Rattle.table.specs.TableCalls.{after_check}
use Rattle.pick.specs.Picking.{pick_checked, pick_of}
use Rattle.rules.specs.declared.refusal.Refusal.{Refusal}

-- A list that a pick is made of, as it is passed.
abbrev pub passed_list : List ℕ → Result ℕ Refusal
passed_list l = passed_up_to sizes.hashes_to_send l

-- 17 with its place.
unfoldable pub pick_answered : Result Unit ℕ → Result Unit Refusal
pick_answered (Ok tt) = Ok tt
pick_answered (Err place) = Err (BadPick place)

-- What follows a table's check, or its refusal passed on.
unfoldable pub pick_after : Result ℕ Refusal → Result Unit Refusal → Result Unit Refusal
pick_after (Ok n) a = a
pick_after (Err r) a = Err r

-- What the check of a passed pick answers.
unfoldable pub check_answer : List ℕ → List ℕ → List ℕ → List ℕ → ℕ → List ℕ → Result Unit Refusal
check_answer table index list rowSizes budget pick =
    pick_after (index_checked table index)
    (after_passed (passed_list list) Err
    (λ m.
    after_passed (passed_hashes pick) Err
    (λ k. pick_answered (pick_checked (table_of table) (hashes_at list 0 m) rowSizes budget (hashes_at pick 0 k)))))

-- What the planner writes: 17 with 0 for sizes that aren't one a row, as it has no pick yet.
unfoldable pub pick_output : List ℕ → List ℕ → List ℕ → List ℕ → ℕ → Output
pick_output table index list rowSizes budget =
    after_check (index_checked table index)
    (λ n.
    after_passed (passed_list list) Output.refuse
    (λ m.
    cond (not (eqb (length rowSizes) n))
    (Output.refuse (BadPick 0))
    (Output.bytes (hashes_bytes (pick_of (table_of table) (hashes_at list 0 m) rowSizes budget)))))
