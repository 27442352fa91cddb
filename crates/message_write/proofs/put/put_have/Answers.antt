-- `message_write::put::put_have` meets its contract: the record is good, so its hashes and its field stand in the lent bytes, and the two parts put one
-- after the other are the have put at once. Assumes nothing.
use native.Mathlib.Omega.{arith}
use lib.ListN.{length}
use Rattle.bloom.specs.Have.{sync_place, sync_count}
use Rattle.rules.specs.Hash.{hashes_at}
use Rattle.wire.specs.Item.{hash_list_bytes}
use Rattle.leb128.specs.Number.{Put}
use Rattle.message_size.proofs.SizeLaws.{BehindHave, have_fits, have_room_lem}
use Rattle.message_write.proofs.PutLaws.{syncs_fit, syncs_put, put_have_parts}
use Rattle.message_write.proofs.put.put_have.Goals as goal

pub overflow_add-end : goal.overflow_add-end
overflow_add-end c = omega (arith, ((let it : BehindHave c.args.bytes.now c.args.haves.now c.args.i c.filter_in-f.result = have_fits _ _ _ _ c.filter_in-f.ensures c.requires.0.0 c.requires.0.1 in it)).field)

pub put_hashes-at_filter-requires : goal.put_hashes-at_filter-requires
put_hashes-at_filter-requires c =
    syncs_fit c.args.bytes.now c.args.haves.now c.args.i _ _ c.sync_place-place.ensures c.sync_count-count.ensures
    c.args.at
    (length c.args.out.now)
    ((let it : BehindHave c.args.bytes.now c.args.haves.now c.args.i c.filter_in-f.result = have_fits _ _ _ _ c.filter_in-f.ensures c.requires.0.0 c.requires.0.1 in it)).sync
    (omega (arith, have_room_lem _ _ _ _ c.filter_in-f.ensures _ _ c.requires.1))

pub slice_bounds-put_prefixed_filter-end : goal.slice_bounds-put_prefixed_filter-end
slice_bounds-put_prefixed_filter-end c =
    omega (arith, ((let it : BehindHave c.args.bytes.now c.args.haves.now c.args.i c.filter_in-f.result = have_fits _ _ _ _ c.filter_in-f.ensures c.requires.0.0 c.requires.0.1 in it)).field)

pub put_prefixed_filter-requires : goal.put_prefixed_filter-requires
put_prefixed_filter-requires c =
    omega (
      arith,
      have_room_lem _ _ _ _ c.filter_in-f.ensures _ _ c.requires.1,
      ((let it : Put
          c.args.out.now
          c.put_hashes-at_filter.new.out
          c.args.at
          (hash_list_bytes (hashes_at c.args.bytes.now (sync_place c.args.haves.now c.args.i) (sync_count c.args.haves.now c.args.i)))
          c.put_hashes-at_filter.result = syncs_put c.args.bytes.now c.args.haves.now c.args.i _ _ c.sync_place-place.ensures c.sync_count-count.ensures _ _ _ _ c.put_hashes-at_filter.ensures in it)).place,
      c.put_hashes-at_filter.auto.out,
    )

pub returns : goal.returns
returns c =
    put_have_parts _ _ _ _ c.filter_in-f.ensures _ _ _ _ _ _ ((let it : Put
    c.args.out.now
    c.put_hashes-at_filter.new.out
    c.args.at
    (hash_list_bytes (hashes_at c.args.bytes.now (sync_place c.args.haves.now c.args.i) (sync_count c.args.haves.now c.args.i)))
    c.put_hashes-at_filter.result = syncs_put c.args.bytes.now c.args.haves.now c.args.i _ _ c.sync_place-place.ensures c.sync_count-count.ensures _ _ _ _ c.put_hashes-at_filter.ensures in it)) c.put_prefixed_filter.ensures
