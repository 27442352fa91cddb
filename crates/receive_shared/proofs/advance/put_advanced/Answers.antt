-- `receive_shared::advance::put_advanced` meets its contract: the marked rows are put along the index (AdvanceLaws). Assumes nothing.
use mathlib.Core.Bool.{false}
use native.Mathlib.Omega.{arith}
use lib.ListN.{length-replicate}
use Rattle.rules.specs.Sizes.{sizes}
use Rattle.table_graph.proofs.MarkLaws.{blank}
use Rattle.receive_shared.proofs.AdvanceLaws.{shared_marked, shared_put}
use Rattle.receive_shared.proofs.advance.put_advanced.Goals as goal

pub mark_advanced-requires : goal.mark_advanced-requires
mark_advanced-requires c =
    (c.requires.0, c.requires.1, c.requires.2, c.requires.3, omega (arith, length-replicate sizes.rows false, c.requires.0.rows.few), blank _ sizes.rows c.requires.0.rows.few)

pub collect_marked-requires : goal.collect_marked-requires
collect_marked-requires c =
    let long = length-replicate sizes.rows false in (
      c.requires.0,
      omega arith,
      omega (arith, long, c.requires.0.rows.few, c.mark_advanced.auto.marks),
      omega (arith, c.requires.4, shared_marked _ _ _ c.requires.0.rows c.requires.1 _ _ _ c.mark_advanced.ensures),
    )

pub returns : goal.returns
returns c =
    shared_put _ _ _ c.requires.0.rows c.requires.1 _ _ _ c.mark_advanced.ensures _ _ _ c.collect_marked.ensures
