-- `plan_put::put::put_body` meets its contract: nothing is put where none is counted, else what was chosen. Assumes nothing.
use native.Mathlib.Omega.{arith}
use Rattle.plan_put.proofs.PartLaws.{nothing_put, all_put_lem}
use Rattle.plan_put.proofs.put.put_body.Goals as goal

pub returns-then-count-eq0 : goal.returns-then-count-eq0
returns-then-count-eq0 c = nothing_put _ _ c.if-count-eq0.true _

pub put_chosen-requires : goal.put_chosen-requires
put_chosen-requires c =
    (c.requires.0, c.requires.1, omega (arith, c.requires.2), c.requires.3, c.requires.4 c.if-count-eq0.false)

pub returns : goal.returns
returns c =
    all_put_lem _ _ c.if-count-eq0.false _ _ c.put_chosen.ensures
