-- `rules::little_endian::u16_at` meets its contract: two bytes make a number below 65,536. Assumes nothing.
use Prim.Native.Nat.{◌+◌}
use native.Mathlib.Omega.{arith}
use borrow.Author.Rules.{rules}
use Rattle.rules.specs.LittleEndian.{u16_at}
use Rattle.rules.proofs.little_endian.u16_at.Goals as goal

pub overflow_cast-result : goal.overflow_cast-result
overflow_cast-result c = omega (arith, (c.type_inv.bytes c.args.at).fits)

pub overflow_cast-result-2 : goal.overflow_cast-result-2
overflow_cast-result-2 c = omega (arith, (c.type_inv.bytes (c.args.at + 1)).fits)

pub overflow_mul-result : goal.overflow_mul-result
overflow_mul-result c = omega (arith, (c.type_inv.bytes (c.args.at + 1)).fits)

pub overflow_add-result-2 : goal.overflow_add-result-2
overflow_add-result-2 c =
    let at = c.args.at in
    omega (arith, (c.type_inv.bytes at).fits, (c.type_inv.bytes (at + 1)).fits)

pub returns : goal.returns
unfolding u16_at
returns c = search rules
