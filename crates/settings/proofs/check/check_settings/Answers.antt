-- `settings::check::check_settings` meets its contract: one law for each answer. Assumes nothing.
use Rattle.settings.proofs.SettingLaws.{settings_bad, settings_partial, settings_fine}
use Rattle.settings.proofs.check.check_settings.Goals as goal

pub returns-then-bad-n : goal.returns-then-bad-n
returns-then-bad-n c = settings_bad _ _ c.first_bad-bad.ensures c.if-bad-n.true

pub returns-then-settings-ne0 : goal.returns-then-settings-ne0
returns-then-settings-ne0 c = settings_partial _ _ c.first_bad-bad.ensures c.if-bad-n.false c.if-settings-ne0.true

pub returns : goal.returns
returns c = settings_fine _ _ c.first_bad-bad.ensures c.if-bad-n.false c.if-settings-ne0.false
