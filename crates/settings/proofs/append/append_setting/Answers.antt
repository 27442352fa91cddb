-- `settings::append::append_setting` meets its contract: the check's refusal, or what goes behind a good list. Assumes nothing.
use mathlib.Core.Path.{sym}
use Rattle.rules.proofs.Outputs.{refused}
use Rattle.settings.proofs.SettingLaws.{checked_long, append_refused, append_goes}
use Rattle.rules.proofs.Cases.{handed_on}
use Rattle.settings.proofs.append.append_setting.Goals as goal

pub newest_version-requires : goal.newest_version-requires
newest_version-requires c =
    checked_long _ _ (sym c.in_ok-n.ensures)

pub returns-in_err-n : goal.returns-in_err-n
returns-in_err-n c = rw (handed_on c.from_residual.ensures.1, append_refused _ _ _ _ (sym c.in_err-n.ensures)) (refused _ _)

pub returns : goal.returns
returns c =
    rw (append_goes _ _ _ _ (sym c.in_ok-n.ensures) _ c.newest_version.ensures) c.append_after.ensures
