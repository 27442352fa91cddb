-- `settings::append::appendable` meets its contract: one law for each test that decides. Assumes nothing.
use mathlib.Core.Path.{sym, ◌∙◌}
use Rattle.settings.proofs.SettingLaws.{not_allowed, not_named, by_version}
use Rattle.settings.proofs.append.appendable.Goals as goal

pub returns-then-not-allowed : goal.returns-then-not-allowed
returns-then-not-allowed c = sym (not_allowed _ _ _ (sym c.allowed.ensures ∙ c.if-not-allowed.true))

pub returns-then-station-gt-MOST_NUMBER : goal.returns-then-station-gt-MOST_NUMBER
returns-then-station-gt-MOST_NUMBER c =
    sym (not_named _ _ _ (sym c.allowed.ensures ∙ c.if-not-allowed.false) c.if-station-gt-MOST_NUMBER.true)

pub returns : goal.returns
returns c =
    sym (by_version _ _ _ (sym c.allowed.ensures ∙ c.if-not-allowed.false) c.if-station-gt-MOST_NUMBER.false)
