-- `leb128::leb128::unsigned_size` meets its contract: the bytes counted and those of what is left are one more than the number's. Assumes
-- nothing.
use native.Mathlib.Omega.{arith}
use Rattle.leb128.proofs.Number.{shortest_ten, shortest_length_more, length_one}
use Rattle.leb128.proofs.leb128.unsigned_size.Goals as goal

pub loop-rest-init : goal.loop-rest-init
loop-rest-init c = omega arith

pub overflow_add-size : goal.overflow_add-size
overflow_add-size c = omega (arith, shortest_ten c.args.n c.ranges.n.fits)

pub loop-rest-smaller : goal.loop-rest-smaller
loop-rest-smaller c = omega arith

pub loop-rest-preserved : goal.loop-rest-preserved
loop-rest-preserved c = omega (arith, shortest_length_more c.loop-rest.rest c.loop-rest-test.true)

pub returns : goal.returns
returns c = omega (arith, length_one c.loop-rest.rest c.loop-rest-test.false)
