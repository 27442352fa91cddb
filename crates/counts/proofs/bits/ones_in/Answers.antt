-- `counts::bits::ones_in` meets its contract: a number below 2 to the 64 has at most 64 ones. Assumes nothing.
use mathlib.Core.Path.{refl}
use native.Mathlib.Omega.{arith}
use lib.Count.{ones-le}
use Rattle.counts.proofs.bits.ones_in.Goals as goal

pub overflow_cast-result : goal.overflow_cast-result
overflow_cast-result c = let z = ones-le 64 c.args.word c.ranges.word.fits in omega (arith, z)

pub returns : goal.returns
returns c = (refl, ones-le 64 c.args.word c.ranges.word.fits)
