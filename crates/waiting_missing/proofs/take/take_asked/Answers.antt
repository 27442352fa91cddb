-- `waiting_missing::take::take_asked` meets its contract: before each turn the numbers of what the rows below this one ask for are taken, if these are
-- marked (FoundLaws). Assumes nothing.
use mathlib.Core.Path.{refl}
use native.Mathlib.Omega.{arith}
use Rattle.waiting_missing.proofs.FoundLaws.{row_inside, asked_start, asked_next, asked_end}
use Rattle.waiting_missing.proofs.take.take_asked.Goals as goal

pub loop-row-init : goal.loop-row-init
loop-row-init c = asked_start _ c.args.marks.now c.requires.2

pub overflow_add-end : goal.overflow_add-end
overflow_add-end c =
    let inside = row_inside _ c.args.marks.now c.args.entries _ _ c.loop-row-test.true c.requires.1.inside (c.requires.4 _ c.loop-row-test.true) c.asked_count.ensures in
    omega (arith, inside, c.requires.2.few)

pub take_refs-found-requires : goal.take_refs-found-requires
take_refs-found-requires c =
    let inside = row_inside _ c.args.marks.now c.args.entries _ _ c.loop-row-test.true c.requires.1.inside (c.requires.4 _ c.loop-row-test.true) c.asked_count.ensures in
    (c.requires.0, c.requires.1, c.loop-row.invariant.found, omega arith, omega (arith, inside))

pub loop-row-preserved : goal.loop-row-preserved
loop-row-preserved c =
    asked_next _ c.args.marks.now _ _ _ refl refl c.asked_count.ensures c.loop-row.auto.refs c.loop-row.invariant c.take_refs-found.ensures

pub returns : goal.returns
returns c = asked_end _ c.args.marks.now _ c.loop-row.auto.row-end c.loop-row-test.false c.loop-row.invariant
