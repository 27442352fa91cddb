-- `counts::bits::rest_at` meets its contract: a byte more is the number times 256 and that byte, and fewer than eight bytes fit. Assumes nothing.
use mathlib.Core.Path.{refl}
use native.Mathlib.Omega.{arith}
use Rattle.rules.specs.Hash.{big_endian}
use Rattle.counts.proofs.BitLaws.{rest_small, rest_byte, rest_next, rest_ends}
use Rattle.counts.proofs.bits.rest_at.Goals as goal

pub loop-byte-init : goal.loop-byte-init
unfolding big_endian
loop-byte-init c = refl

pub overflow_mul-word : goal.overflow_mul-word
overflow_mul-word c =
    let small = rest_small c.args.field.now (λ k. (c.type_inv.field k).fits) c.args.at c.requires.0 c.requires.1 _ _ c.loop-byte.invariant c.loop-byte-test.true in
    omega (arith, small)

pub overflow_add-word : goal.overflow_add-word
overflow_add-word c =
    let small = rest_small c.args.field.now (λ k. (c.type_inv.field k).fits) c.args.at c.requires.0 c.requires.1 _ _ c.loop-byte.invariant c.loop-byte-test.true in
    omega (arith, small, rest_byte c.args.field.now (λ k. (c.type_inv.field k).fits) c.args.at c.requires.0 c.requires.1 c.loop-byte.byte-index)

pub loop-byte-preserved : goal.loop-byte-preserved
loop-byte-preserved c = rest_next c.args.field.now (λ k. (c.type_inv.field k).fits) c.args.at c.requires.0 c.requires.1 _ _ c.loop-byte.invariant c.loop-byte-test.true

pub returns : goal.returns
returns c = rest_ends c.args.field.now (λ k. (c.type_inv.field k).fits) c.args.at c.requires.0 c.requires.1 _ _ c.loop-byte.invariant c.loop-byte-test.false
