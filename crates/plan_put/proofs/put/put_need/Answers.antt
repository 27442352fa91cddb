-- `plan_put::put::put_need` meets its contract: nothing is put where none is counted, else what was found. Assumes nothing.
use Rattle.plan_put.proofs.PartLaws.{nothing_put, all_put_lem}
use Rattle.plan_put.proofs.put.put_need.Goals as goal

pub returns-then-count-eq0 : goal.returns-then-count-eq0
returns-then-count-eq0 c = nothing_put _ _ c.if-count-eq0.true _

pub put_found-requires : goal.put_found-requires
put_found-requires c =
    c.requires c.if-count-eq0.false

pub returns : goal.returns
returns c =
    all_put_lem _ _ c.if-count-eq0.false _ _ c.put_found.ensures
