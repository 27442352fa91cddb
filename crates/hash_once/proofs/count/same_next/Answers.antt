-- `hash_once::count::same_next` meets its contract: both entries name hashes of the list (CountLaws). Assumes nothing.
use Prim.Native.Nat.{◌<◌}
use native.Mathlib.Omega.{arith}
use Rattle.hash_once.proofs.CountLaws.{entry_named, same_named}
use Rattle.hash_once.proofs.count.same_next.Goals as goal

pub overflow_mul-here : goal.overflow_mul-here
overflow_mul-here c = omega (arith, (let it : c.u16_at-here.result < c.args.count = entry_named _ _ _ c.requires.0 _ _ (omega (arith, c.requires.1)) c.u16_at-here.ensures in it), c.requires.0.inside)

pub overflow_mul-next : goal.overflow_mul-next
overflow_mul-next c = omega (arith, (let it : c.u16_at-next.result < c.args.count = entry_named _ _ _ c.requires.0 _ _ c.requires.1 c.u16_at-next.ensures in it), c.requires.0.inside)

pub same_hash-requires : goal.same_hash-requires
same_hash-requires c =
    (omega (arith, (let it : c.u16_at-here.result < c.args.count = entry_named _ _ _ c.requires.0 _ _ (omega (arith, c.requires.1)) c.u16_at-here.ensures in it), c.requires.0.inside), omega (arith, (let it : c.u16_at-next.result < c.args.count = entry_named _ _ _ c.requires.0 _ _ c.requires.1 c.u16_at-next.ensures in it), c.requires.0.inside))

pub returns : goal.returns
returns c = same_named _ _ _ _ _ _ c.u16_at-here.ensures c.u16_at-next.ensures c.same_hash.ensures
