-- `message_size::size::have_size` meets its contract: the record is good, so its hashes and its field stand in the lent bytes. Assumes nothing.
use Prim.Native.Nat.{◌+◌}
use mathlib.Core.Path.{◌≡◌, refl}
use native.Mathlib.Omega.{arith}
use lib.ListN.{length}
use Rattle.bloom.specs.Have.{have_in}
use Rattle.message.specs.Message.{have_bytes}
use Rattle.message_size.proofs.SizeLaws.{BehindHave, have_fits, have_long_lem, have_small, part_is, part_long}
use Rattle.message_size.proofs.size.have_size.Goals as goal

pub hashes_size-hashes-requires : goal.hashes_size-hashes-requires
hashes_size-hashes-requires c =
    rw c.sync_count.ensures (have_fits _ _ _ _ refl c.requires.0 c.requires.1).few

pub overflow_add-end : goal.overflow_add-end
overflow_add-end c = omega (arith, ((let it : BehindHave c.args.bytes.now c.args.haves.now c.args.i c.filter_in-f.result = have_fits _ _ _ _ c.filter_in-f.ensures c.requires.0 c.requires.1 in it)).field)

pub slice_bounds-prefixed_filter_size-end : goal.slice_bounds-prefixed_filter_size-end
slice_bounds-prefixed_filter_size-end c = omega (arith, ((let it : BehindHave c.args.bytes.now c.args.haves.now c.args.i c.filter_in-f.result = have_fits _ _ _ _ c.filter_in-f.ensures c.requires.0 c.requires.1 in it)).field)

pub prefixed_filter_size-requires : goal.prefixed_filter_size-requires
prefixed_filter_size-requires c = let w = (let it : BehindHave c.args.bytes.now c.args.haves.now c.args.i c.filter_in-f.result = have_fits _ _ _ _ c.filter_in-f.ensures c.requires.0 c.requires.1 in it) in rw part_is (rw (part_long _ _ _ w.field) w.small)

pub overflow_add-result : goal.overflow_add-result
overflow_add-result c = omega (arith, (let it : c.hashes_size-hashes.result + c.prefixed_filter_size.result ≡ length (have_bytes (have_in c.args.bytes.now c.args.haves.now c.args.i)) = have_long_lem _ _ _ _ _ _ c.filter_in-f.ensures (rw c.sync_count.ensures at c.hashes_size-hashes.ensures) c.prefixed_filter_size.ensures in it), have_small _ _ _ c.requires.0 c.requires.1)

pub returns : goal.returns
returns c = (let it : c.hashes_size-hashes.result + c.prefixed_filter_size.result ≡ length (have_bytes (have_in c.args.bytes.now c.args.haves.now c.args.i)) = have_long_lem _ _ _ _ _ _ c.filter_in-f.ensures (rw c.sync_count.ensures at c.hashes_size-hashes.ensures) c.prefixed_filter_size.ensures in it)
