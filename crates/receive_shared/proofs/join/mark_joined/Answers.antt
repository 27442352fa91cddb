-- `receive_shared::join::mark_joined` meets its contract: one mark after the other (JoinedLaws). Assumes nothing.
use Rattle.rules.specs.Sizes.{sizes}
use Rattle.table_graph.proofs.MarkLaws.{blank}
use Rattle.receive_shared.proofs.JoinedLaws.{joined_marks}
use Rattle.receive_shared.proofs.join.mark_joined.Goals as goal

pub returns : goal.returns
returns c =
    joined_marks _ _ _ _ _ _ _ _ _ (blank _ sizes.rows c.requires.0.rows.few) c.requires.4 c.mark_list.ensures c.mark_list-2.ensures c.unmark.ensures
