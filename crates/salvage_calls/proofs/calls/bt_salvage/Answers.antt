-- `salvage_calls::calls::bt_salvage` meets its contract: the words and the buffers of what salvaging ensures. Assumes nothing.
use mathlib.Core.Path.{ap, ◌∙◌}
use Rattle.salvage_calls.specs.SalvageWords.{salvage_words}
use Rattle.salvage_calls.proofs.calls.bt_salvage.Goals as goal

pub returns : goal.returns
returns c =
    record { answer = c.salvage_words.ensures ∙ ap salvage_words c.salvage_table.ensures.answer; table = c.salvage_table.ensures.table; told = c.salvage_table.ensures.told }
