-- `table_graph::marked::collect_marked` meets its contract: what has been put and what is left make the whole, and the index has the rows in ascending
-- order of hash (CollectLaws). Assumes nothing.
use native.Mathlib.Omega.{arith}
use Rattle.table_graph.proofs.CollectLaws.{collecting_starts, collecting_passed, collecting_room, collecting_taken, collecting_ends, past_first, by_mark}
use Rattle.table_graph.proofs.PickLaws.{marked_most}
use Rattle.table_graph.proofs.marked.collect_marked.Goals.{then-row-before+then-marks-row, else-row-before, else-row-before-via-then-row-before+else-marks-row, else-row-before-via-else-row-before}
use Rattle.table_graph.proofs.marked.collect_marked.Goals as goal

pub loop-k-init : goal.loop-k-init
loop-k-init c = collecting_starts _ _ _ _ _ _

pub overflow_mul-count : goal.overflow_mul-count
overflow_mul-count c =
    let room = collecting_room _ _ _ _ _ _ _ _ _ _ c.loop-k.invariant c.loop-k-test.true c.u16_at-row.ensures (omega arith) (by_mark _ _ _ _ _ _ _ c.if-row-before.true c.if-marks-row.true) c.requires.0.fit c.requires.1 in
    omega (arith, room)

pub put_hash-requires : goal.put_hash-requires
put_hash-requires c =
    let room = collecting_room _ _ _ _ _ _ _ _ _ _ c.loop-k.invariant c.loop-k-test.true c.u16_at-row.ensures (omega arith) (by_mark _ _ _ _ _ _ _ c.if-row-before.true c.if-marks-row.true) c.requires.0.fit c.requires.1 in
    (omega (arith, room), omega (arith, c.requires.0.rows.inside))

pub overflow_add-count : goal.overflow_add-count
overflow_add-count c =
    let room = collecting_room _ _ _ _ _ _ _ _ _ _ c.loop-k.invariant c.loop-k-test.true c.u16_at-row.ensures (omega arith) (by_mark _ _ _ _ _ _ _ c.if-row-before.true c.if-marks-row.true) c.requires.0.fit c.requires.1 in
    omega (arith, room, marked_most c.args.before c.args.marks.now)

pub loop-k-preserved : goal.loop-k-preserved
loop-k-preserved c =
    elim c.if-row-before.branch [
      | then-row-before+then-marks-row w ↦
          rw (w.list-is, w.count-is)
          (collecting_taken _ _ _ _ _ _ _ _ _ _ c.loop-k.invariant c.loop-k-test.true c.u16_at-row.ensures (omega arith)
          (by_mark _ _ _ _ _ _ _ w.if-row-before.true w.if-marks-row.true)
          _
          (λ i. (c.type_inv.table i).fits)
          c.requires.0.rows.inside
          w.put_hash.ensures)
      | else-row-before w ↦
          rw (w.list-is, w.count-is)
          (collecting_passed _ _ _ _ _ _ _ _ _ _ c.loop-k.invariant c.loop-k-test.true c.u16_at-row.ensures
          (elim w.else-row-before.branch [
            | else-row-before-via-then-row-before+else-marks-row w' ↦ by_mark _ _ _ _ _ _ _ w'.if-row-before.true w'.if-marks-row.false
            | else-row-before-via-else-row-before w' ↦ past_first _ _ _ _ _ _ w'.if-row-before.false
          ]))
    ]

pub returns : goal.returns
returns c =
    collecting_ends _ _ _ _ _ _ _ _ _ c.loop-k.invariant c.loop-k-test.false c.requires.0.fit c.requires.1
