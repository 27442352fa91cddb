-- `table_graph::beyond::put_beyond` meets its contract: the rows that are marked when the marks are turned are those beyond the list, as many are
-- counted, and they are put where there is room. Assumes nothing.
use native.Mathlib.Omega.{arith}
use lib.ListN.{length-replicate}
use mathlib.Core.Bool.{false}
use Rattle.rules.specs.Sizes.{sizes}
use Rattle.rules.proofs.Outputs.{written_bytes, no_room}
use Rattle.table_graph.proofs.GraphMarks.{beyond_size, beyond_put}
use Rattle.table_graph.proofs.MarkLaws.{blank}
use Rattle.table_graph.proofs.PickLaws.{count_most}
use Rattle.table_graph.proofs.beyond.put_beyond.Goals as goal

pub mark_at_or_below-requires : goal.mark_at_or_below-requires
mark_at_or_below-requires c =
    (c.requires.0, omega (arith, c.requires.1), omega (arith, length-replicate sizes.rows false, c.requires.0.rows.few), blank _ _ c.requires.0.rows.few)

pub overflow_mul-size : goal.overflow_mul-size
overflow_mul-size c =
    omega (arith, count_most _ _ _ c.count_marked-size.ensures, c.requires.0.rows.few)

pub returns-then-out-size : goal.returns-then-out-size
returns-then-out-size c =
    no_room _ _ _ (beyond_size _ _ _ _ _ c.mark_at_or_below.ensures c.flip.ensures _ c.count_marked-size.ensures) c.if-out-size.true

pub returns : goal.returns
returns c =
    written_bytes _ _ _ _ (beyond_size _ _ _ _ _ c.mark_at_or_below.ensures c.flip.ensures _ c.count_marked-size.ensures) c.if-out-size.false
    (beyond_put _ _ _ _ _ c.mark_at_or_below.ensures c.flip.ensures _ _ c.put_marked.ensures)
