-- `table_graph::beyond::beyond` meets its contract: one law for each answer (CallLaws), and the rows of an accepted table are good. Assumes nothing.
use mathlib.Core.Path.{sym}
use native.Mathlib.Omega.{arith}
use Rattle.table_index.proofs.CheckLaws.{checked_indexed}
use Rattle.rules.proofs.Outputs.{refused}
use Rattle.rules.proofs.PassedLaws.{passed_is}
use Rattle.table_graph.proofs.CallLaws.{beyond_refused, beyond_no_list, beyond_written}
use Rattle.rules.proofs.Cases.{handed_on}
use Rattle.table_graph.proofs.beyond.beyond.Goals as goal

pub put_beyond-requires : goal.put_beyond-requires
put_beyond-requires c =
    (checked_indexed _ _ _ (sym c.in_ok-n.ensures), omega (arith, (passed_is _ _ (sym c.in_ok-count.ensures)).whole))

pub returns-in_err-n : goal.returns-in_err-n
returns-in_err-n c = rw (handed_on c.from_residual.ensures.1, beyond_refused _ _ _ _ (sym c.in_err-n.ensures)) (refused _ _)

pub returns-in_err-count : goal.returns-in_err-count
returns-in_err-count c = rw (handed_on c.from_residual-in_err-count.ensures.1, beyond_no_list _ _ _ _ (sym c.in_ok-n.ensures) _ (sym c.in_err-count.ensures)) (refused _ _)

pub returns : goal.returns
returns c =
    rw (beyond_written _ _ _ _ (sym c.in_ok-n.ensures) _ (sym c.in_ok-count.ensures)) c.put_beyond.ensures
