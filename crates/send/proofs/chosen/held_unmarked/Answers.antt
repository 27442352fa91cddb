-- `send::chosen::held_unmarked` meets its contract: the row that is found is the hash's place, and there is one if it is below the number of
-- rows. Assumes nothing.
use borrow.Author.Rules.{rules}
use Rattle.send.proofs.ChosenLaws.{held_none, held_member, held_past}
use Rattle.send.proofs.chosen.held_unmarked.Goals as goal

pub returns-then-n-row : goal.returns-then-n-row
returns-then-n-row c = held_none _ _ _ _ _ _ c.look_up-row.ensures c.if-n-row.true

pub returns-then-members-row : goal.returns-then-members-row
returns-then-members-row c =
    held_member _ _ _ _ _ _ c.look_up-row.ensures c.if-n-row.false c.if-members-row.true

pub returns : goal.returns
returns c =
    held_past _ _ _ _ _ _ c.look_up-row.ensures c.if-n-row.false (search rules)
