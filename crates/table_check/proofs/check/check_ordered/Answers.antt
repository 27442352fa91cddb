-- `table_check::check::check_ordered` meets its contract: the first bad row decides. Assumes nothing.
use Rattle.table_check.proofs.CheckLaws.{bad_whole}
use Rattle.table_check.proofs.check.check_ordered.Goals as goal

pub answer-requires : goal.answer-requires
answer-requires c =
    (c.requires.0, c.requires.1, bad_whole _ _ _ _ c.requires.2 c.first_bad.ensures)
