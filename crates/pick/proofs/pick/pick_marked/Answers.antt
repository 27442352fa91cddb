-- `pick::pick::pick_marked` meets its contract: at each row the marks before it are those of what was picked, and going on from there gives the whole pick
-- (PickedRows). Assumes nothing.
use mathlib.Core.Path.{sym, ◌∙◌}
use native.Mathlib.Omega.{arith}
use Rattle.table.proofs.GoodLaws.{good_part}
use Rattle.pick.proofs.GoesLaws.{goes_within}
use Rattle.pick.proofs.PickedRows.{planned_starts, planned_stays, planned_takes, planned_ends}
use Rattle.pick.proofs.pick.pick_marked.Goals as goal
use Rattle.pick.proofs.pick.pick_marked.Goals.{then-goes_now, else-goes_now}

pub loop-row-init : goal.loop-row-init
loop-row-init c = planned_starts _ _ _ _ _ _ c.requires.4

pub goes_now-requires : goal.goes_now-requires
goes_now-requires c = (
  good_part _ _ _ c.requires.0 (omega (arith, c.loop-row-test.true)),
  omega (arith, c.loop-row-test.true, c.requires.2),
  omega (arith, c.loop-row-test.true, c.requires.3, c.loop-row.auto.picks),
)

pub overflow_sub-left : goal.overflow_sub-left
overflow_sub-left c =
    goes_within _ _ _ _ _ _ (sym c.goes_now.ensures ∙ c.if-goes_now.true)

pub loop-row-preserved : goal.loop-row-preserved
loop-row-preserved c =
    elim c.if-goes_now.branch [
      | then-goes_now w ↦
          rw (w.left-is, w.picks-is, w.count-is)
          (planned_takes _ _ _ _ _ c.requires.0 _ _ _ _ c.loop-row.invariant c.loop-row-test.true
          (omega (arith, c.loop-row-test.true, c.requires.3, c.loop-row.auto.picks))
          (sym c.goes_now.ensures ∙ w.if-goes_now.true))
      | else-goes_now w ↦
          rw (w.left-is, w.picks-is, w.count-is)
          (planned_stays _ _ _ _ _ c.requires.0 _ _ _ _ c.loop-row.invariant c.loop-row-test.true (sym c.goes_now.ensures ∙ w.if-goes_now.false))
    ]

pub returns : goal.returns
returns c = λ list marks. planned_ends _ _ _ _ _ _ _ _ _ c.loop-row.invariant (omega arith) c.loop-row-test.false list marks
