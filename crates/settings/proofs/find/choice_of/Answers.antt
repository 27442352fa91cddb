-- `settings::find::choice_of` meets its contract: what the records from i on leave of the choice is what all leave of the first. Assumes nothing.
use mathlib.Core.Path.{sym, ◌∙◌}
use Rattle.settings.proofs.SettingLaws.{ask_starts, ask_on, ask_ends}
use Rattle.settings.proofs.find.choice_of.Goals as goal

pub loop-i-init : goal.loop-i-init
loop-i-init c = ask_starts _ _ _ _ _ c.crate_choice-choice.ensures

pub loop-i-preserved : goal.loop-i-preserved
loop-i-preserved c = sym (ask_on _ _ _ _ _ _ _ c.loop-i-test.true c.asked_next-choice.ensures) ∙ c.loop-i.invariant

pub returns : goal.returns
returns c = sym (ask_ends _ _ _ _ _ _ c.loop-i-test.false) ∙ c.loop-i.invariant
