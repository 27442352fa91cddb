-- `hash_order::word::byte` meets its contract: an element of a slice of bytes is below 256. Assumes nothing.
use mathlib.Core.Path.{refl}
use native.Mathlib.Omega.{arith}
use Rattle.hash_order.proofs.word.byte.Goals as goal

pub overflow_cast-result : goal.overflow_cast-result
overflow_cast-result c = omega (arith, c.type_inv.bytes c.args.at)

pub returns : goal.returns
returns c = (refl, (c.type_inv.bytes c.args.at).fits)
