-- `table_graph::heads::put_heads` meets its contract: the rows that no row needs are the heads, as many are counted, and they are put where there is room.
-- Assumes nothing.
use Prim.Native.Nat.{◌≤◌}
use mathlib.Core.Bool.{false}
use native.Mathlib.Omega.{arith}
use lib.ListN.{length-replicate}
use Rattle.rules.specs.Sizes.{sizes}
use Rattle.rules.proofs.Outputs.{written_bytes, no_room}
use Rattle.table.proofs.GoodLaws.{good_part}
use Rattle.table_graph.proofs.CollectLaws.{heads_size, heads_put}
use Rattle.table_graph.proofs.MarkLaws.{blank}
use Rattle.table_graph.proofs.PickLaws.{count_most}
use Rattle.table_graph.proofs.heads.put_heads.Goals as goal

pub mark_heads-requires : goal.mark_heads-requires
mark_heads-requires c =
    let few : c.args.before ≤ sizes.rows = omega (arith, c.requires.0.rows.few, c.requires.1) in
    (good_part _ _ _ c.requires.0.rows c.requires.1, omega (arith, length-replicate sizes.rows false), blank _ _ few)

pub overflow_mul-size : goal.overflow_mul-size
overflow_mul-size c =
    omega (arith, count_most _ _ _ c.count_marked-size.ensures, c.requires.0.rows.few, c.requires.1)

pub returns-then-out-size : goal.returns-then-out-size
returns-then-out-size c =
    no_room _ _ _ (heads_size _ _ _ c.mark_heads.ensures (good_part _ _ _ c.requires.0.rows c.requires.1).good _ c.count_marked-size.ensures) c.if-out-size.true

pub returns : goal.returns
returns c =
    written_bytes _ _ _ _ (heads_size _ _ _ c.mark_heads.ensures (good_part _ _ _ c.requires.0.rows c.requires.1).good _ c.count_marked-size.ensures)
    c.if-out-size.false (heads_put _ _ _ c.mark_heads.ensures _ _ _ c.collect_marked.ensures)
