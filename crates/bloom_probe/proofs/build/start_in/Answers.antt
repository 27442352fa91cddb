-- `bloom_probe::build::start_in` meets its contract: a hash of the list stands inside it, and there is a bit of the field for it. Assumes nothing.
use native.Mathlib.Omega.{arith}
use Rattle.bloom_probe.proofs.build.start_in.Goals as goal

pub returns : goal.returns
returns c = λ h. absurd (omega (arith, c.if-i-n.false))
