-- `message_size::size::haves_size` meets its contract: what is counted and the haves from record i on are together all of them. Assumes nothing.
use Prim.Native.Nat.{ℕ, ◌+◌, ◌≤◌}
use mathlib.Core.Path.{refl, ap, ◌∙◌}
use native.Mathlib.Omega.{arith}
use Rattle.bloom.specs.Have.{have_count}
use Rattle.message_size.proofs.SizeLaws.{most_have_lem, haves_size, haves_again, haves_all, haves_counted_long, haves_few, have_small, ten}
use Rattle.message_size.proofs.size.haves_size.Goals as goal

pub loop-i-init : goal.loop-i-init
loop-i-init c =
    let few = haves_few _ _ c.requires in
    let n = ten (have_count c.args.haves.now) (omega (arith, few)) in
    record {
      small = omega (arith, n, c.unsigned_size-size.ensures);
      rest = ap (λ (k : ℕ). k + haves_size c.args.bytes.now c.args.haves.now (have_count c.args.haves.now) 0) c.unsigned_size-size.ensures ∙ haves_counted_long _ _ _ refl;
    }

pub overflow_add-size : goal.overflow_add-size
overflow_add-size c =
    omega (arith, (let it : c.have_size-size.result ≤ most_have_lem = rw c.have_size-size.ensures (have_small _ _ _ c.requires c.loop-i-test.true) in it), c.loop-i.invariant.small, haves_few _ _ c.requires, c.loop-i-test.true)

pub loop-i-preserved : goal.loop-i-preserved
loop-i-preserved c =
    record {
      small = omega (arith, (let it : c.have_size-size.result ≤ most_have_lem = rw c.have_size-size.ensures (have_small _ _ _ c.requires c.loop-i-test.true) in it), c.loop-i.invariant.small);
      rest = haves_again _ _ _ _ c.loop-i.size _ _ c.loop-i-test.true c.have_size-size.ensures c.loop-i.invariant.rest;
    }

pub returns : goal.returns
returns c = haves_all _ _ _ _ _ _ c.loop-i-test.false c.loop-i.invariant.rest
