-- `settings::record::u32_bytes` meets its contract: a digit to 256 each. Assumes nothing.
use Rattle.settings.proofs.SettingLaws.{u32_made}
use Rattle.settings.proofs.record.u32_bytes.Goals as goal

pub returns : goal.returns
returns c = u32_made _
