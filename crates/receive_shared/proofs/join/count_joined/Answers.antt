-- `receive_shared::join::count_joined` meets its contract: each marked row adds one to those of before, each once (JoinedLaws). Assumes nothing.
use mathlib.Core.Bool.{false}
use native.Mathlib.Omega.{arith}
use lib.ListN.{length-replicate}
use Rattle.rules.specs.Sizes.{sizes}
use Rattle.table_graph.proofs.MarkLaws.{blank}
use Rattle.table_graph.proofs.PickLaws.{count_most}
use Rattle.receive_shared.proofs.JoinedLaws.{once_few, joined_counted}
use Rattle.receive_shared.proofs.join.count_joined.Goals as goal

pub mark_joined-requires : goal.mark_joined-requires
mark_joined-requires c =
    (c.requires.0, c.requires.1, c.requires.2, omega (arith, length-replicate sizes.rows false, c.requires.0.rows.few), blank _ sizes.rows c.requires.0.rows.few)

pub overflow_add-result : goal.overflow_add-result
overflow_add-result c =
    omega (arith, count_most _ _ _ c.count_marked.ensures, c.requires.0.rows.few, once_few _ _ _ _ c.count_once-once.ensures, c.requires.3)

pub returns : goal.returns
returns c =
    joined_counted _ _ _ c.requires.0 _ _ _ c.mark_joined.ensures _ _ c.count_once-once.ensures c.count_marked.ensures
