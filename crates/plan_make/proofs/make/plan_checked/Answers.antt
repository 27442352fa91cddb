-- `plan_make::make::plan_checked` meets its contract: what is asked for is nothing, or found by its numbers, planned with, and put as it was counted
-- (PutDone). Assumes nothing.
use Prim.Native.Nat.{ℕ, ◌+◌}
use mathlib.Core.Path.{refl}
use lib.ListN.{length-replicate}
use Rattle.rules.specs.Sizes.{sizes}
use Rattle.plan_count.proofs.CountLaws.{heads_good}
use Rattle.plan_make.proofs.PutDone.{nothing_counted, nothing_put, need_ready, need_put}
use Rattle.plan_make.proofs.make.plan_checked.Goals as goal

pub asks_nothing-requires : goal.asks_nothing-requires
asks_nothing-requires c =
    (c.requires.0.rows, heads_good _ _ c.requires.0.rows c.requires.0.session)

pub returns-then-asks_nothing : goal.returns-then-asks_nothing
returns-then-asks_nothing c =
    let none = c.asks_nothing.ensures c.if-asks_nothing.true _ in
    c.plan_asked.ensures.called _ (nothing_counted none) _ _ refl (nothing_put none _ _)

pub find_need-asked-requires : goal.find_need-asked-requires
find_need-asked-requires c =
    (c.requires.0.rows, c.requires.0.waiting_rows, c.requires.0.sorted, heads_good _ _ c.requires.0.rows c.requires.0.session, length-replicate {A = ℕ} (sizes.hashes + 1) 0)

pub plan_asked-planned-requires : goal.plan_asked-planned-requires
plan_asked-planned-requires c =
    (c.requires.0.rows, c.requires.0.session, c.requires.1, c.find_need-asked.ensures.counted.within, c.requires.2)

pub put_need-requires : goal.put_need-requires
put_need-requires c =
    need_ready c.find_need-asked.ensures _ c.puts_of-puts.ensures c.plan_asked-planned.ensures.fits

pub returns : goal.returns
returns c =
    c.plan_asked-planned.ensures.called _ c.find_need-asked.ensures.counted _ _ refl
    (need_put c.find_need-asked.ensures _ c.puts_of-puts.ensures c.plan_asked-planned.ensures.fits _ c.put_need.ensures)
