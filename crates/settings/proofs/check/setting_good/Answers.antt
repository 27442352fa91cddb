-- `settings::check::setting_good` meets its contract: one law for each test that decides. Assumes nothing.
use mathlib.Core.Path.{sym, ◌∙◌}
use Rattle.settings.proofs.SettingLaws.{good_old, good_not, good_rest}
use Rattle.settings.proofs.check.setting_good.Goals as goal

pub returns-then-version_at-before : goal.returns-then-version_at-before
returns-then-version_at-before c =
    sym (good_old _ _ _ _ c.requires.1 c.version_at.ensures c.if-version_at-before.true)

pub returns-then-not-allowed : goal.returns-then-not-allowed
returns-then-not-allowed c =
    sym (good_not _ _ _ _ c.requires.1 c.version_at.ensures c.if-version_at-before.false _ c.choice_at.ensures (sym c.allowed.ensures ∙ c.if-not-allowed.true))

pub returns : goal.returns
returns c =
    c.zero_bytes.ensures
    ∙ sym (good_rest _ _ _ _ c.requires.1 c.version_at.ensures c.if-version_at-before.false _ c.choice_at.ensures (sym c.allowed.ensures ∙ c.if-not-allowed.false))
