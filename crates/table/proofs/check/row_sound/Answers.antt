-- `table::check::row_sound` meets its contract: one law of RowLaws for each test that decides. Assumes nothing.
use mathlib.Core.Path.{sym, ◌∙◌}
use borrow.Author.Rules.{rules}
use Rattle.table.proofs.RowLaws.{sound_many, sound_numbers, sound_zeros}
use Rattle.table.proofs.check.row_sound.Goals as goal

pub returns-then-d-count_of : goal.returns-then-d-count_of
returns-then-d-count_of c = sym (sound_many _ _ _ _ c.count_of.ensures c.if-d-count_of.true)

pub returns-then-not-numbers_good : goal.returns-then-not-numbers_good
returns-then-not-numbers_good c =
    sym (sound_numbers _ _ _ _ c.count_of.ensures (search rules) (sym c.numbers_good.ensures ∙ c.if-not-numbers_good.true))

pub returns : goal.returns
returns c =
    c.zeros_good.ensures
    ∙ sym (sound_zeros _ _ _ _ c.count_of.ensures (search rules) (sym c.numbers_good.ensures ∙ c.if-not-numbers_good.false))
