-- `receive_haves::haves::laid_size` meets its contract: the sizes that are added and those still to come make the whole (HaveLaws). Assumes nothing.
use native.Mathlib.Omega.{arith}
use Rattle.receive_haves.proofs.HaveLaws.{BehindRecord, have_fits, size_starts, size_on, size_ends, laid_small}
use Rattle.receive_haves.proofs.haves.laid_size.Goals as goal

pub loop-i-init : goal.loop-i-init
loop-i-init c = size_starts _ _

pub overflow_mul-size : goal.overflow_mul-size
overflow_mul-size c = omega (arith, c.sync_count.ensures, ((let it : BehindRecord c.args.message.now c.args.words.now c.loop-i.i c.filter_in-filter.result = have_fits _ _ c.requires _ c.loop-i-test.true _ c.filter_in-filter.ensures in it)).few)

pub overflow_add-size : goal.overflow_add-size
overflow_add-size c = omega (arith, c.sync_count.ensures, ((let it : BehindRecord c.args.message.now c.args.words.now c.loop-i.i c.filter_in-filter.result = have_fits _ _ c.requires _ c.loop-i-test.true _ c.filter_in-filter.ensures in it)).few, ((let it : BehindRecord c.args.message.now c.args.words.now c.loop-i.i c.filter_in-filter.result = have_fits _ _ c.requires _ c.loop-i-test.true _ c.filter_in-filter.ensures in it)).small)

-- the sizes that are added are no more than the whole
pub overflow_add-size-in-loop-i : goal.overflow_add-size-in-loop-i
overflow_add-size-in-loop-i c =
    omega (
      arith,
      size_on _ _ c.requires _ _ _ _ c.loop-i-test.true c.filter_in-filter.ensures c.sync_count.ensures c.loop-i.invariant,
      laid_small _ _ c.requires,
    )

pub loop-i-preserved : goal.loop-i-preserved
loop-i-preserved c =
    size_on _ _ c.requires _ _ _ _ c.loop-i-test.true c.filter_in-filter.ensures c.sync_count.ensures c.loop-i.invariant

pub returns : goal.returns
returns c = size_ends _ _ _ _ c.loop-i-test.false c.loop-i.invariant
