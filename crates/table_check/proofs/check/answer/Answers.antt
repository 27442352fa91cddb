-- `table_check::check::answer` meets its contract: one law of CheckLaws for each answer. Assumes nothing.
use Rattle.table_check.proofs.CheckLaws.{answer_bad, answer_partial, answer_good}
use Rattle.table_check.proofs.check.answer.Goals as goal

pub returns-then-bad-n : goal.returns-then-bad-n
returns-then-bad-n c =
    answer_bad _ _ _ c.row_size-size.ensures c.requires.1 _ c.requires.2 c.if-bad-n.true

pub returns-then-table-size-ne0 : goal.returns-then-table-size-ne0
returns-then-table-size-ne0 c =
    answer_partial _ _ _ c.row_size-size.ensures c.requires.1 _ c.requires.2 c.if-bad-n.false c.if-table-size-ne0.true

pub returns : goal.returns
returns c =
    answer_good _ _ _ c.row_size-size.ensures c.requires.1 _ c.requires.2 c.if-bad-n.false c.if-table-size-ne0.false
