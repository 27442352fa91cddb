-- `counts::bits::set_bits` meets its contract: the bits counted and the ones of the bytes that are left are the set bits of all. Assumes nothing.
use mathlib.Core.Path.{ap, ◌∙◌}
use native.Mathlib.Omega.{arith}
use lib.Count.{ones}
use Rattle.counts.proofs.BitLaws.{set_starts, set_next, set_ends, set_most}
use Rattle.counts.proofs.bits.set_bits.Goals as goal

pub loop-i-init : goal.loop-i-init
loop-i-init c = set_starts c.args.field.now (λ k. (c.type_inv.field k).fits)

pub overflow_add-set : goal.overflow_add-set
overflow_add-set c =
    let next = set_next c.args.field.now (λ k. (c.type_inv.field k).fits) _ _ _ (c.ones_in-set.ensures.0 ∙ ap ones c.word_at.ensures) c.loop-i-test.true c.loop-i.invariant in
    omega (arith, next, set_most c.args.field.now, c.requires)

pub loop-i-preserved : goal.loop-i-preserved
loop-i-preserved c =
    set_next c.args.field.now (λ k. (c.type_inv.field k).fits) _ _ _ (c.ones_in-set.ensures.0 ∙ ap ones c.word_at.ensures) c.loop-i-test.true c.loop-i.invariant

pub overflow_add-result : goal.overflow_add-result
overflow_add-result c =
    let all = set_ends c.args.field.now (λ k. (c.type_inv.field k).fits) _ _ _ (c.ones_in.ensures.0 ∙ ap ones c.rest_at.ensures) (omega arith) c.loop-i.invariant in
    omega (arith, all, set_most c.args.field.now, c.requires)

pub returns : goal.returns
returns c =
    set_ends c.args.field.now (λ k. (c.type_inv.field k).fits) _ _ _ (c.ones_in.ensures.0 ∙ ap ones c.rest_at.ensures) (omega arith) c.loop-i.invariant
