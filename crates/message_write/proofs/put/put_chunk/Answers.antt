-- `message_write::put::put_chunk` meets its contract: the length and the bytes put after it are the prefixed string put at once. Assumes nothing.
use mathlib.Core.Path.{refl}
use native.Mathlib.Omega.{arith}
use Rattle.message_size.proofs.SizeLaws.{prefixed_long}
use Rattle.message_write.proofs.PutLaws.{put_prefixed, put_bytes}
use Rattle.message_write.proofs.put.put_chunk.Goals as goal

pub put_unsigned-at_bytes-requires : goal.put_unsigned-at_bytes-requires
put_unsigned-at_bytes-requires c = omega (arith, c.requires, prefixed_long c.args.bytes.now)

pub copy_into-requires : goal.copy_into-requires
copy_into-requires c =
    omega (arith, c.requires, prefixed_long c.args.bytes.now, c.put_unsigned-at_bytes.ensures.place, c.put_unsigned-at_bytes.auto.out)

pub overflow_add-result : goal.overflow_add-result
overflow_add-result c =
    omega (arith, c.requires, prefixed_long c.args.bytes.now, c.put_unsigned-at_bytes.ensures.place)

pub returns : goal.returns
returns c =
    put_prefixed _ _ _ _ _ _ _ _ refl c.put_unsigned-at_bytes.ensures (put_bytes _ _ _ _ c.copy_into.ensures)
