-- `plan_put::put::put_ascending` meets its contract: nothing is put where none is counted, else the marked rows. Assumes nothing.
use native.Mathlib.Omega.{arith}
use Rattle.plan_put.proofs.PartLaws.{nothing_put, all_put_lem}
use Rattle.plan_put.proofs.put.put_ascending.Goals as goal

pub returns-then-count-eq0 : goal.returns-then-count-eq0
returns-then-count-eq0 c = nothing_put _ _ c.if-count-eq0.true _

pub collect_marked-requires : goal.collect_marked-requires
collect_marked-requires c =
    (c.requires.0, omega arith, c.requires.1, c.requires.2 c.if-count-eq0.false)

pub returns : goal.returns
returns c =
    all_put_lem _ _ c.if-count-eq0.false _ _ c.collect_marked.ensures.content
