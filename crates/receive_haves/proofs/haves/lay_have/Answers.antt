-- `receive_haves::haves::lay_have` meets its contract: hashes and a field that stand in bytes are just these bytes, and the two parts put one after the other are
-- the have put at once (HaveLaws). Assumes nothing.
use Prim.Native.Nat.{◌+◌, ◌*◌, ◌≤◌}
use native.Mathlib.Omega.{arith}
use lib.ListN.{length}
use Rattle.rules.specs.Sizes.{sizes}
use Rattle.receive_haves.proofs.HaveLaws.{BehindRecord, have_fits, have_ends, have_laid}
use Rattle.receive_haves.proofs.haves.lay_have.Goals as goal

pub overflow_mul-size : goal.overflow_mul-size
overflow_mul-size c =
    omega (arith, c.sync_count-size.ensures, c.requires.0.syncs _ c.requires.1)

pub overflow_add-field : goal.overflow_add-field
overflow_add-field c = omega (arith, (let it : c.args.at + sizes.hash * c.sync_count-size.result + c.filter_in-filter.result.size ≤ length c.args.bytes.now = have_ends _ _ c.requires.0 _ c.requires.1 _ c.filter_in-filter.ensures _ c.sync_count-size.ensures _ _ c.requires.2 in it))

pub overflow_add-from : goal.overflow_add-from
overflow_add-from c =
    omega (arith, ((let it : BehindRecord c.args.message.now c.args.words.now c.args.i c.filter_in-filter.result = have_fits _ _ c.requires.0 _ c.requires.1 _ c.filter_in-filter.ensures in it)).sync, c.sync_count-size.ensures, c.sync_place-from.ensures)

pub slice_bounds-copy_into-end : goal.slice_bounds-copy_into-end
slice_bounds-copy_into-end c =
    omega (arith, ((let it : BehindRecord c.args.message.now c.args.words.now c.args.i c.filter_in-filter.result = have_fits _ _ c.requires.0 _ c.requires.1 _ c.filter_in-filter.ensures in it)).sync, c.sync_count-size.ensures, c.sync_place-from.ensures)

pub copy_into-requires : goal.copy_into-requires
copy_into-requires c = omega (arith, (let it : c.args.at + sizes.hash * c.sync_count-size.result + c.filter_in-filter.result.size ≤ length c.args.bytes.now = have_ends _ _ c.requires.0 _ c.requires.1 _ c.filter_in-filter.ensures _ c.sync_count-size.ensures _ _ c.requires.2 in it))

pub overflow_add-start : goal.overflow_add-start
overflow_add-start c = omega (arith, ((let it : BehindRecord c.args.message.now c.args.words.now c.args.i c.filter_in-filter.result = have_fits _ _ c.requires.0 _ c.requires.1 _ c.filter_in-filter.ensures in it)).field)

pub slice_bounds-copy_into-end-2 : goal.slice_bounds-copy_into-end-2
slice_bounds-copy_into-end-2 c = omega (arith, ((let it : BehindRecord c.args.message.now c.args.words.now c.args.i c.filter_in-filter.result = have_fits _ _ c.requires.0 _ c.requires.1 _ c.filter_in-filter.ensures in it)).field)

pub copy_into-requires-2 : goal.copy_into-requires-2
copy_into-requires-2 c =
    omega (arith, (let it : c.args.at + sizes.hash * c.sync_count-size.result + c.filter_in-filter.result.size ≤ length c.args.bytes.now = have_ends _ _ c.requires.0 _ c.requires.1 _ c.filter_in-filter.ensures _ c.sync_count-size.ensures _ _ c.requires.2 in it), c.copy_into.auto.out)

pub overflow_add-result : goal.overflow_add-result
overflow_add-result c =
    omega (arith, (let it : c.args.at + sizes.hash * c.sync_count-size.result + c.filter_in-filter.result.size ≤ length c.args.bytes.now = have_ends _ _ c.requires.0 _ c.requires.1 _ c.filter_in-filter.ensures _ c.sync_count-size.ensures _ _ c.requires.2 in it))

pub returns : goal.returns
returns c =
    have_laid _ _ c.requires.0 _ c.requires.1 _ c.filter_in-filter.ensures _ _ c.sync_place-from.ensures c.sync_count-size.ensures
    (λ k. (c.type_inv.message k).fits)
    _ _ _ _
    c.copy_into.ensures
    c.copy_into-2.ensures
