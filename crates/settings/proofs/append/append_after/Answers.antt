-- `settings::append::append_after` meets its contract: 15, or the record. Assumes nothing.
use native.Mathlib.Omega.{arith}
use mathlib.Core.Path.{sym, ◌∙◌}
use Rattle.rules.proofs.Outputs.{refused}
use Rattle.settings.proofs.SettingLaws.{append_bad, append_new, append_fits}
use Rattle.settings.proofs.append.append_after.Goals as goal

pub returns-then-not-appendable : goal.returns-then-not-appendable
returns-then-not-appendable c = rw (append_bad _ _ _ (sym c.appendable.ensures ∙ c.if-not-appendable.true)) (refused _ _)

pub overflow_add-newest : goal.overflow_add-newest
overflow_add-newest c =
    let f = append_fits _ _ _ (sym c.appendable.ensures ∙ c.if-not-appendable.false) in
    omega (arith, f.0)

pub write_setting-requires : goal.write_setting-requires
write_setting-requires c =
    (append_fits _ _ _ (sym c.appendable.ensures ∙ c.if-not-appendable.false)).1

pub returns : goal.returns
returns c =
    rw (append_new _ _ _ (sym c.appendable.ensures ∙ c.if-not-appendable.false)) c.write_setting.ensures
