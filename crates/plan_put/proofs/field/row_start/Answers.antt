-- `plan_put::field::row_start` meets its contract: a row's hash stands at its start, inside the table. Assumes nothing.
use native.Mathlib.Omega.{arith}
use Rattle.plan_put.proofs.field.row_start.Goals as goal

pub start_of-requires : goal.start_of-requires
start_of-requires c = (omega arith, c.requires.1 c.if-row-n.true)

pub returns : goal.returns
returns c = λ h. absurd (omega (arith, c.if-row-n.false))
