-- `receive_parts::left::held_marked` meets its contract: the row that is found tells both. Assumes nothing.
use Rattle.receive_parts.proofs.LeftLaws.{unknown_unmarked, known_marked}
use Rattle.receive_parts.proofs.left.held_marked.Goals as goal

pub returns-then-n-row : goal.returns-then-n-row
returns-then-n-row c = unknown_unmarked _ _ _ _ _ c.look_up-row.ensures c.if-n-row.true

pub returns : goal.returns
returns c = known_marked _ _ _ _ _ c.look_up-row.ensures c.if-n-row.false
