-- `message_write::put::put_prefixed_filter` meets its contract: the size and the filter put after it are the prefixed filter put at once. Assumes nothing.
use native.Mathlib.Omega.{arith}
use Rattle.message_size.proofs.SizeLaws.{prefixed_room}
use Rattle.message_write.proofs.PutLaws.{put_prefixed}
use Rattle.message_write.proofs.put.put_prefixed_filter.Goals as goal

pub put_unsigned-at_filter-requires : goal.put_unsigned-at_filter-requires
put_unsigned-at_filter-requires c =
    omega (arith, prefixed_room _ _ _ _ c.filter_size-size.ensures c.requires)

pub put_filter-requires : goal.put_filter-requires
put_filter-requires c =
    omega (arith, prefixed_room _ _ _ _ c.filter_size-size.ensures c.requires, c.put_unsigned-at_filter.ensures.place, c.put_unsigned-at_filter.auto.out)

pub returns : goal.returns
returns c =
    put_prefixed _ _ _ _ _ _ _ _ c.filter_size-size.ensures c.put_unsigned-at_filter.ensures c.put_filter.ensures
