-- `settings::record::setting_bytes` meets its contract: four numbers, the byte and zeros. Assumes nothing.
use Rattle.settings.proofs.SettingLaws.{setting_made}
use Rattle.settings.proofs.record.setting_bytes.Goals as goal

pub returns : goal.returns
returns c =
    setting_made _ _ _ _ _ _ _ c.u32_bytes-v.ensures c.u32_bytes-s.ensures c.u32_bytes-b.ensures c.u32_bytes-p.ensures
