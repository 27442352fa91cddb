-- `plan_put::put::put_sent` meets its contract: nothing is put where none is counted, else both are merged. Assumes nothing.
use Rattle.plan_put.proofs.PartLaws.{nothing_put, all_put_lem}
use Rattle.plan_put.proofs.put.put_sent.Goals as goal

pub returns-then-count-eq0 : goal.returns-then-count-eq0
returns-then-count-eq0 c = nothing_put _ _ c.if-count-eq0.true _

pub merge_marked-requires : goal.merge_marked-requires
merge_marked-requires c =
    (c.requires.0, c.requires.1, c.requires.2 c.if-count-eq0.false)

pub returns : goal.returns
returns c =
    all_put_lem _ _ c.if-count-eq0.false _ _ c.merge_marked.ensures
