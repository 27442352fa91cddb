-- `message_write::put::put_hashes` meets its contract: hashes that stand in bytes are just these bytes. Assumes nothing.
use native.Mathlib.Omega.{arith}
use Rattle.message_size.proofs.SizeLaws.{hash_list_long, hash_list_room}
use Rattle.message_write.proofs.PutLaws.{put_hash_list}
use Rattle.message_write.proofs.put.put_hashes.Goals as goal

pub put_unsigned-at_hashes-requires : goal.put_unsigned-at_hashes-requires
put_unsigned-at_hashes-requires c =
    omega (arith, c.requires.1, hash_list_long c.args.bytes.now c.args.place c.args.count)

pub copy_into-requires : goal.copy_into-requires
copy_into-requires c =
    omega (arith, hash_list_room _ _ _ _ _ _ c.requires.0 c.requires.1 c.put_unsigned-at_hashes.ensures.place, c.put_unsigned-at_hashes.auto.out)

pub overflow_add-result : goal.overflow_add-result
overflow_add-result c =
    omega (arith, c.requires.1, hash_list_long c.args.bytes.now c.args.place c.args.count, c.put_unsigned-at_hashes.ensures.place)

pub returns : goal.returns
returns c =
    put_hash_list _ _ _ (λ i. (c.type_inv.bytes i).fits) c.requires.0 _ _ _ _ _ c.put_unsigned-at_hashes.ensures c.copy_into.ensures
