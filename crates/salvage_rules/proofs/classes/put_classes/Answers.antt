-- `salvage_rules::classes::put_classes` meets its contract: no two entries of the order name one row, so that each turn settles one row and touches no
-- other (ClassLaws). Assumes nothing.
use Prim.Native.Nat.{◌<◌}
use native.Mathlib.Omega.{arith}
use Rattle.table_check.proofs.RepeatLaws.{entry_row}
use Rattle.salvage_rules.proofs.ClassLaws.{start_first, start_next, start_below, classes_more, classes_all}
use Rattle.salvage_rules.proofs.classes.put_classes.Goals as goal

pub loop-k-init : goal.loop-k-init
loop-k-init c = record { last = start_first _; done = λ a h. absurd (omega (arith, h)) }

pub overflow_cast-classes : goal.overflow_cast-classes
overflow_cast-classes c =
    omega (arith, start_below _ _ _ c.run_start-start.ensures, c.loop-k-test.true, c.requires.2)

pub offset_bounds-classes-row : goal.offset_bounds-classes-row
offset_bounds-classes-row c = omega (arith, (let it : c.u16_at-row.result < c.args.n = entry_row _ _ _ _ c.requires.0 _ _ c.loop-k-test.true c.u16_at-row.ensures in it), c.requires.2)

pub bounds-classes-row : goal.bounds-classes-row
bounds-classes-row c = omega (arith, (let it : c.u16_at-row.result < c.args.n = entry_row _ _ _ _ c.requires.0 _ _ c.loop-k-test.true c.u16_at-row.ensures in it), c.requires.1)

pub loop-k-preserved : goal.loop-k-preserved
loop-k-preserved c =
    record {
      last = start_next _ _ _ c.run_start-start.ensures;
      done =
          classes_more _ _ _ _ c.requires.0 c.loop-k.classes _ _ _ c.loop-k.invariant.done c.loop-k-test.true c.u16_at-row.ensures c.run_start-start.ensures
          ((let it : c.u16_at-row.result < c.args.n = entry_row _ _ _ _ c.requires.0 _ _ c.loop-k-test.true c.u16_at-row.ensures in it)) _ c.requires.1 c.loop-k.auto.classes;
    }

pub returns : goal.returns
returns c =
    classes_all _ _ _ _ c.requires.0 _ (λ a h. c.loop-k.invariant.done a (omega (arith, c.loop-k-test.false, h)))
