-- `waiting::check::check_tables` meets its contract: the change table's refusal or its index's, or what the waiting table's check says beside its rows.
-- Assumes nothing.
use Prim.Native.Nat.{ℕ}
use mathlib.Core.List.{List}
use mathlib.Core.Path.{◌≡◌, sym, ◌∙◌}
use Rattle.rules.specs.declared.refusal.Refusal.{Refusal}
use Rattle.table_index.specs.Index.{index_checked}
use Rattle.table_index.proofs.CheckLaws.{checked_table, checked_indexed}
use Rattle.table.specs.TableBytes.{rows_at}
use Rattle.table.specs.TableCalls.{passed_on}
use Rattle.table.proofs.TableLaws.{table_good}
use Rattle.waiting.specs.WaitingBytes.{waiting_checked}
use Rattle.waiting.specs.WaitingCalls.{tables_checked}
use Rattle.waiting.proofs.check.check_tables.Goals as goal
use Rattle.rules.proofs.Cases.{handed_on}
use Rattle.std.specs.Prelude.{Ok, Err}

module _ (s x w : List ℕ) where
  refused : (r : Refusal) → index_checked s x ≡ Err r → Err r ≡ tables_checked s x w
  unfolding tables_checked passed_on
  refused r e = rw e

  beside : (n : ℕ) → index_checked s x ≡ Ok n → waiting_checked (rows_at s 0 n) w ≡ tables_checked s x w
  unfolding tables_checked passed_on
  beside n e = rw (e, (table_good s n (checked_table s x n e)).is)

pub check_waiting-requires : goal.check_waiting-requires
check_waiting-requires c =
    checked_indexed _ _ _ (sym c.in_ok-n.ensures)

pub returns-in_err-n : goal.returns-in_err-n
returns-in_err-n c = rw (handed_on c.from_residual.ensures.1) (refused _ _ _ _ (sym c.in_err-n.ensures))

pub returns : goal.returns
returns c =
    c.check_waiting.ensures ∙ beside _ _ _ _ (sym c.in_ok-n.ensures)
