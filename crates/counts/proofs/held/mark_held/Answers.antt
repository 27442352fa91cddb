-- `counts::held::mark_held` meets its contract: the rows that the passed entries name are marked (MarkedAlong), and each row is named. Assumes nothing.
use Prim.Native.Nat.{◌+◌, ◌*◌, ◌≤◌, ◌<◌}
use native.Mathlib.Omega.{arith}
use lib.ListN.{length}
use Rattle.rules.specs.Sizes.{sizes}
use Rattle.table.specs.Table.{held}
use Rattle.table.specs.TableBytes.{rows_at, row_size}
use Rattle.counts.proofs.WalkLaws.{names_row, row_stands, marked_none, marked_next, marked_all, next_place}
use Rattle.counts.proofs.held.mark_held.Goals as goal

pub loop-i-init : goal.loop-i-init
loop-i-init c = record { from = λ j a b. omega arith; marked = marked_none _ _ _ }

pub overflow_mul-row : goal.overflow_mul-row
overflow_mul-row c = omega (arith, (let it : c.u16_at-row.result * row_size + sizes.hash ≤ length c.args.listener.now = row_stands _ _ _ c.requires.1 _ _ c.loop-i-test.true c.u16_at-row.ensures in it))

pub place_from-k-requires : goal.place_from-k-requires
place_from-k-requires c =
    (c.requires.0, (let it : c.u16_at-row.result * row_size + sizes.hash ≤ length c.args.listener.now = row_stands _ _ _ c.requires.1 _ _ c.loop-i-test.true c.u16_at-row.ensures in it), rw c.u16_at-row.ensures (c.loop-i.invariant.from _ (omega arith) c.loop-i-test.true))

pub overflow_mul-row-in-loop-i : goal.overflow_mul-row-in-loop-i
overflow_mul-row-in-loop-i c = omega (arith, (let it : c.u16_at-row.result * row_size + sizes.hash ≤ length c.args.listener.now = row_stands _ _ _ c.requires.1 _ _ c.loop-i-test.true c.u16_at-row.ensures in it))

pub held_at-requires : goal.held_at-requires
held_at-requires c =
    (c.requires.0, (let it : c.u16_at-row.result * row_size + sizes.hash ≤ length c.args.listener.now = row_stands _ _ _ c.requires.1 _ _ c.loop-i-test.true c.u16_at-row.ensures in it), c.place_from-k.ensures)

pub bounds-marks-row : goal.bounds-marks-row
bounds-marks-row c = (let it : c.u16_at-row.result < length c.loop-i.marks = let row = names_row _ _ _ c.requires.1 _ _ c.loop-i-test.true c.u16_at-row.ensures in
    omega (arith, row, c.requires.2, c.loop-i.auto.marks) in it)

pub loop-i-preserved : goal.loop-i-preserved
loop-i-preserved c =
    record {
      from = next_place _ _ _ c.requires.1 _ _ _ _ c.loop-i-test.true c.u16_at-row.ensures c.place_from-k.ensures;
      marked = marked_next _ _ _ _ _ _ c.u16_at-row.ensures ((let it : c.u16_at-row.result < length c.loop-i.marks = let row = names_row _ _ _ c.requires.1 _ _ c.loop-i-test.true c.u16_at-row.ensures in
          omega (arith, row, c.requires.2, c.loop-i.auto.marks) in it)) c.held_at.ensures c.loop-i.invariant.marked;
    }

pub returns : goal.returns
returns c =
    marked_all _ _ _ c.requires.1 _ _ (held (rows_at c.args.sender.now 0 c.args.m)) c.loop-i-test.false c.loop-i.invariant.marked
