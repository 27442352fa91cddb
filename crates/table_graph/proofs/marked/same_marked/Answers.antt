-- `table_graph::marked::same_marked` meets its contract: the rest of both lists decides what the whole ones do, and the index has the rows in ascending
-- order of hash (SameLaws). Assumes nothing.
use mathlib.Core.Path.{sym, ◌∙◌}
use native.Mathlib.Omega.{arith}
use Rattle.table_graph.proofs.CollectLaws.{past_first, by_mark}
use Rattle.table_graph.proofs.SameLaws.{comparing_starts, comparing_passed, comparing_more, comparing_fails, comparing_taken, comparing_ends}
use Rattle.table_graph.proofs.marked.same_marked.Goals.{then-many-count-via-then-many-count, then-many-count-via-else-many-count+then-not-same_hash, then-row-before+then-marks-row+else-many-count+else-not-same_hash, else-row-before, else-row-before-via-then-row-before+else-marks-row, else-row-before-via-else-row-before}
use Rattle.table_graph.proofs.marked.same_marked.Goals as goal

pub loop-k-init : goal.loop-k-init
loop-k-init c = comparing_starts _ _ _ _ _ _ _ _

pub returns-then-many-count : goal.returns-then-many-count
returns-then-many-count c =
    let marked = by_mark _ _ _ _ _ _ _ c.if-row-before.true c.if-marks-row.true in
    elim c.then-many-count.branch [
      | then-many-count-via-then-many-count w ↦
          comparing_more _ _ _ _ _ _ _ _ _ _ c.loop-k.invariant _ c.loop-k-test.true c.u16_at-row.ensures (omega arith) marked c.requires.0.fit c.requires.1 w.if-many-count.true
      | then-many-count-via-else-many-count+then-not-same_hash w ↦
          comparing_fails _ _ _ _ _ _ _ _ _ _ c.loop-k.invariant _ c.loop-k-test.true c.u16_at-row.ensures (omega arith) marked w.if-many-count.false c.requires.0.fit c.requires.1
          (sym w.same_hash.ensures ∙ w.if-not-same_hash.true)
    ]

pub loop-k-preserved : goal.loop-k-preserved
loop-k-preserved c =
    elim c.if-row-before.branch [
      | then-row-before+then-marks-row+else-many-count+else-not-same_hash w ↦
          rw w.count-is
          (comparing_taken _ _ _ _ _ _ _ _ _ _ c.loop-k.invariant _ c.loop-k-test.true c.u16_at-row.ensures (omega arith)
          (by_mark _ _ _ _ _ _ _ w.if-row-before.true w.if-marks-row.true)
          w.if-many-count.false
          (sym w.same_hash.ensures ∙ w.if-not-same_hash.false))
      | else-row-before w ↦
          rw w.count-is
          (comparing_passed _ _ _ _ _ _ _ _ _ _ c.loop-k.invariant _ c.loop-k-test.true c.u16_at-row.ensures
          (elim w.else-row-before.branch [
            | else-row-before-via-then-row-before+else-marks-row w' ↦ by_mark _ _ _ _ _ _ _ w'.if-row-before.true w'.if-marks-row.false
            | else-row-before-via-else-row-before w' ↦ past_first _ _ _ _ _ _ w'.if-row-before.false
          ]))
    ]

pub returns : goal.returns
returns c =
    comparing_ends _ _ _ _ _ _ _ _ _ _ c.loop-k.invariant c.requires.0.fit c.requires.1 c.loop-k-test.false
