-- `rules::zeros::zero_bytes` meets its contract: the bytes that were joined are all 0 if what they are joined in is. Assumes nothing.
use native.Mathlib.Omega.{arith}
use Rattle.std.proofs.lemmas.Grind.{common_steps}
use Rattle.rules.proofs.ZeroLaws.{joined_none, joined_next}
use Rattle.rules.proofs.zeros.zero_bytes.Goals as goal

pub loop-byte-init : goal.loop-byte-init
loop-byte-init c = joined_none _ _

pub loop-byte-preserved : goal.loop-byte-preserved
loop-byte-preserved c = grind (arith, common_steps, joined_next)
