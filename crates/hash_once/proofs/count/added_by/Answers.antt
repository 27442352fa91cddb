-- `hash_once::count::added_by` meets its contract: both tests are made in the definition's order (JoinLaws). Assumes nothing.
use Prim.Native.Nat.{◌<◌}
use native.Mathlib.Omega.{arith}
use Rattle.hash_once.proofs.CountLaws.{entry_named}
use Rattle.hash_once.proofs.JoinLaws.{added_again, added_there, added_new}
use Rattle.hash_once.proofs.count.added_by.Goals as goal

pub returns-then-named_again : goal.returns-then-named_again
returns-then-named_again c = added_again _ _ _ _ _ _ c.named_again.ensures c.if-named_again.true

pub overflow_mul-here : goal.overflow_mul-here
overflow_mul-here c = omega (arith, (let it : c.u16_at-here.result < c.args.count = entry_named _ _ _ c.requires.0 _ _ c.requires.1 c.u16_at-here.ensures in it), c.requires.0.inside)

pub stands_among-requires : goal.stands_among-requires
stands_among-requires c =
    (c.requires.2, c.requires.3, omega (arith, (let it : c.u16_at-here.result < c.args.count = entry_named _ _ _ c.requires.0 _ _ c.requires.1 c.u16_at-here.ensures in it), c.requires.0.inside))

pub returns-then-stands_among : goal.returns-then-stands_among
returns-then-stands_among c =
    added_there _ _ _ _ _ _ c.named_again.ensures c.if-named_again.false _ c.u16_at-here.ensures _ c.stands_among.ensures c.if-stands_among.true

pub returns : goal.returns
returns c =
    added_new _ _ _ _ _ _ c.named_again.ensures c.if-named_again.false _ c.u16_at-here.ensures _ c.stands_among.ensures c.if-stands_among.false
