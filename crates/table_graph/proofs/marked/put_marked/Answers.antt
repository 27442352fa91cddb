-- `table_graph::marked::put_marked` meets its contract: putting the hashes that are left behind those that were put gives the buffer that putting all
-- of them gives, and there is room for as many as are left. Assumes nothing.
use mathlib.Core.Path.{refl}
use native.Mathlib.Omega.{arith}
use Rattle.table_graph.proofs.MarkedRows.{row_taken, row_passed, rows_none, rows_room}
use Rattle.table_graph.proofs.PickLaws.{left_all}
use Rattle.table_graph.proofs.PutLaws.{room_one, room_same, put_one, put_same, put_none}
use Rattle.table_graph.proofs.marked.put_marked.Goals.{then-marks-i, else-marks-i}
use Rattle.table_graph.proofs.marked.put_marked.Goals as goal

pub loop-i-init : goal.loop-i-init
loop-i-init c = record { room = rows_room _ _ _ _ _ c.requires.2; rest = rw left_all }

pub put_hash-requires : goal.put_hash-requires
put_hash-requires c =
    let taken = row_taken _ _ _ _ c.loop-i-test.true c.if-marks-i.true in
    let room = room_one _ _ _ taken _ _ c.loop-i.invariant.room in
    (omega (arith, room), omega (arith, c.requires.0.inside))

pub overflow_add-at : goal.overflow_add-at
overflow_add-at c =
    let taken = row_taken _ _ _ _ c.loop-i-test.true c.if-marks-i.true in
    let room = room_one _ _ _ taken _ _ c.loop-i.invariant.room in
    omega (arith, room)

pub loop-i-preserved : goal.loop-i-preserved
loop-i-preserved c =
    elim c.if-marks-i.branch [
      | then-marks-i w ↦
          let taken = row_taken _ _ _ _ c.loop-i-test.true w.if-marks-i.true in
          rw (w.out-is, w.at-is)
          (record {
            room = room_one _ _ _ taken _ _ c.loop-i.invariant.room;
            rest =
                put_one _ _ _ taken _ _ _ _ _ _ (λ k. (c.type_inv.table k).fits)
                (omega (arith, c.requires.0.inside)) refl w.put_hash.ensures c.loop-i.invariant.rest;
          })
      | else-marks-i w ↦
          let same = row_passed _ _ _ _ c.loop-i-test.true w.if-marks-i.false in
          rw (w.out-is, w.at-is)
          (record { room = room_same _ _ same _ _ c.loop-i.invariant.room; rest = put_same _ _ same _ _ _ c.loop-i.invariant.rest })
    ]

pub returns : goal.returns
returns c = put_none _ (rows_none _ _ _ _ c.loop-i-test.false) _ _ _ c.loop-i.invariant.rest
