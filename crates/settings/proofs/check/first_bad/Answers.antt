-- `settings::check::first_bad` meets its contract: the first bad one of the records from i on is that of all, until record i is one or no record is left.
-- Assumes nothing.
use mathlib.Core.Path.{sym, ◌∙◌}
use Rattle.table.proofs.CheckLaws.{test_starts, test_fails, test_on, test_ends}
use Rattle.settings.proofs.SettingLaws.{version_first, version_next}
use Rattle.settings.proofs.check.first_bad.Goals as goal

pub loop-i-init : goal.loop-i-init
loop-i-init c = record { last = version_first _; rest = test_starts _ _ }

pub returns-then-not-setting_good : goal.returns-then-not-setting_good
returns-then-not-setting_good c =
    sym (test_fails _ _ _ c.loop-i-test.true (sym c.setting_good.ensures ∙ c.if-not-setting_good.true)) ∙ c.loop-i.invariant.rest

pub loop-i-preserved : goal.loop-i-preserved
loop-i-preserved c =
    record {
      last = version_next _ _ _ c.version_at-before.ensures;
      rest =
          sym (test_on _ _ _ c.loop-i-test.true (sym c.setting_good.ensures ∙ c.if-not-setting_good.false)) ∙ c.loop-i.invariant.rest;
    }

pub returns : goal.returns
returns c = sym (test_ends _ _ _ c.loop-i.auto.i-end c.loop-i-test.false) ∙ c.loop-i.invariant.rest
