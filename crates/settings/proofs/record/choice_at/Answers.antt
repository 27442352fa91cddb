-- `settings::record::choice_at` meets its contract: bits, probes and the byte stand behind the station. Assumes nothing.
use native.Mathlib.Omega.{arith}
use Prim.Native.Nat.{◌+◌, ◌*◌}
use mathlib.Core.Path.{refl}
use Rattle.settings.proofs.SettingLaws.{choice_read}
use Rattle.settings.proofs.record.choice_at.Goals as goal

pub overflow_cast-result-3 : goal.overflow_cast-result-3
overflow_cast-result-3 c = omega (arith, (c.type_inv.settings (c.args.i * 32 + 16)).fits)

pub returns : goal.returns
returns c = choice_read _ _ _ _ _ c.u32_at.ensures c.u32_at-2.ensures refl
