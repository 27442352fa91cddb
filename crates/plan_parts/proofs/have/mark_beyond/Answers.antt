-- `plan_parts::have::mark_beyond` meets its contract: the rows that are marked when the marks are turned are those beyond the shared heads. Assumes
-- nothing.
use native.Mathlib.Omega.{arith}
use Rattle.plan_parts.proofs.BeyondLaws.{nothing_counted, beyond_counted}
use Rattle.plan_parts.proofs.have.mark_beyond.Goals as goal

pub returns-then-not-gives : goal.returns-then-not-gives
returns-then-not-gives c = nothing_counted _ _ _ _ _ c.if-not-gives.true c.requires.2

pub returns : goal.returns
returns c =
    beyond_counted _ _ _ _ _ c.mark_at_or_below.ensures c.flip.ensures _ _ c.if-not-gives.false
    (omega (arith, c.requires.2, c.mark_at_or_below.auto.marks, c.flip.auto.marks))
    c.count_marked.ensures
