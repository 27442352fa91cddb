-- `settings::choice::allowed` meets its contract: one law for each test that decides. Assumes nothing.
use mathlib.Core.Path.{sym, ◌∙◌}
use Rattle.settings.proofs.SettingLaws.{not_bits, not_probes, by_byte}
use Rattle.settings.proofs.choice.allowed.Goals as goal

pub returns-then-not-within : goal.returns-then-not-within
returns-then-not-within c = sym (not_bits _ (sym c.within.ensures ∙ c.if-not-within.true))

pub returns-then-not-within-2 : goal.returns-then-not-within-2
returns-then-not-within-2 c =
    sym (not_probes _ (sym c.within.ensures ∙ c.if-not-within.false) (sym c.within-2.ensures ∙ c.if-not-within-2.true))

pub returns : goal.returns
returns c =
    sym (by_byte _ (sym c.within.ensures ∙ c.if-not-within.false) (sym c.within-2.ensures ∙ c.if-not-within-2.false))
