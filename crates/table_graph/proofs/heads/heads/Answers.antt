-- `table_graph::heads::heads` meets its contract: one law for each answer (CallLaws), and the first rows of an accepted table are good. Assumes nothing.
use mathlib.Core.Path.{sym}
use native.Mathlib.Omega.{arith}
use Rattle.table_index.proofs.CheckLaws.{checked_indexed}
use Rattle.rules.proofs.Outputs.{refused}
use Rattle.table_graph.proofs.CallLaws.{heads_refused, heads_many_lem, heads_written}
use Rattle.table_graph.proofs.heads.heads.Goals as goal
use Rattle.rules.proofs.Cases.{handed_on}

pub returns-then-n-before : goal.returns-then-n-before
returns-then-n-before c = rw (heads_many_lem _ _ _ _ (sym c.in_ok-n.ensures) c.if-n-before.true) (refused _ _)

pub put_heads-requires : goal.put_heads-requires
put_heads-requires c = (checked_indexed _ _ _ (sym c.in_ok-n.ensures), omega (arith, c.if-n-before.false))

pub returns-in_err-n : goal.returns-in_err-n
returns-in_err-n c = rw (handed_on c.from_residual.ensures.1, heads_refused _ _ _ _ (sym c.in_err-n.ensures)) (refused _ _)

pub returns : goal.returns
returns c =
    rw (heads_written _ _ _ _ (sym c.in_ok-n.ensures) c.if-n-before.false) c.put_heads.ensures
