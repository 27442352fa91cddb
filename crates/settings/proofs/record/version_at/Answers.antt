-- `settings::record::version_at` meets its contract: the version stands first. Assumes nothing.
use Rattle.settings.proofs.SettingLaws.{version_read}
use Rattle.settings.proofs.record.version_at.Goals as goal

pub returns : goal.returns
returns c = version_read _ _ _ c.u32_at.ensures
