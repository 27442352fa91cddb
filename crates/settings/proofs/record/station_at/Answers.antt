-- `settings::record::station_at` meets its contract: the station stands behind the version. Assumes nothing.
use Rattle.settings.proofs.SettingLaws.{station_read}
use Rattle.settings.proofs.record.station_at.Goals as goal

pub returns : goal.returns
returns c = station_read _ _ _ c.u32_at.ensures
