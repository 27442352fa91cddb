-- `settings::append::newest_version` meets its contract: 0 before the first record, then that of the last. Assumes nothing.
use native.Mathlib.Omega.{arith}
use Rattle.settings.proofs.SettingLaws.{record-within, version_none, version_last}
use Rattle.settings.proofs.append.newest_version.Goals as goal

pub returns-then-n-eq0 : goal.returns-then-n-eq0
returns-then-n-eq0 c = version_none _ _ c.if-n-eq0.true

pub version_at-requires : goal.version_at-requires
version_at-requires c = record-within _ _ _ (omega (arith, c.if-n-eq0.false)) c.requires

pub returns : goal.returns
returns c = version_last _ _ _ c.if-n-eq0.false c.version_at.ensures
