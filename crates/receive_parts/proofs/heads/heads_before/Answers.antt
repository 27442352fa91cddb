-- `receive_parts::heads::heads_before` meets its contract: heads without the last row aren't those of before, and the rows that no row needs are the heads
-- (HeadLaws). Assumes nothing.
use Prim.Native.Nat.{◌≤◌}
use mathlib.Core.Bool.{false}
use mathlib.Core.Path.{sym}
use native.Mathlib.Omega.{arith}
use lib.ListN.{length-replicate}
use Rattle.table_graph.proofs.MarkLaws.{blank}
use Rattle.rules.specs.Sizes.{sizes}
use Rattle.table.proofs.GoodLaws.{good_part}
use Rattle.receive_parts.proofs.HeadLaws.{decided_heads}
use Rattle.receive_parts.proofs.heads.heads_before.Goals as goal

pub has_last-requires : goal.has_last-requires
has_last-requires c =
    (good_part _ _ _ c.requires.0.rows c.requires.1, c.requires.2)

pub returns-then-not-has_last : goal.returns-then-not-has_last
returns-then-not-has_last c = sym (c.has_last.ensures c.if-not-has_last.true)

pub mark_heads-requires : goal.mark_heads-requires
mark_heads-requires c =
    let few : c.args.before ≤ sizes.rows = omega (arith, c.requires.0.rows.few, c.requires.1) in
    (good_part _ _ _ c.requires.0.rows c.requires.1, omega (arith, length-replicate sizes.rows false), blank _ _ few)

pub returns : goal.returns
returns c = decided_heads _ _ _ c.mark_heads.ensures c.same_marked.ensures
