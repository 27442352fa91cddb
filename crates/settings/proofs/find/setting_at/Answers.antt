-- `settings::find::setting_at` meets its contract: the check's refusal, or what the records give. Assumes nothing.
use mathlib.Core.Path.{sym}
use Rattle.settings.proofs.SettingLaws.{checked_long, asked_refused, asked_found}
use Rattle.rules.proofs.Cases.{handed_on}
use Rattle.settings.proofs.find.setting_at.Goals as goal

pub choice_of-requires : goal.choice_of-requires
choice_of-requires c =
    checked_long _ _ (sym c.in_ok-n.ensures)

pub returns-in_err-n : goal.returns-in_err-n
returns-in_err-n c = rw (handed_on c.from_residual.ensures.1) (asked_refused _ _ _ _ (sym c.in_err-n.ensures))

pub returns : goal.returns
returns c =
    asked_found _ _ _ _ (sym c.in_ok-n.ensures) _ c.choice_of.ensures
