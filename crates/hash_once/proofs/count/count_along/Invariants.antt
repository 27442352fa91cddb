-- `hash_once::count::count_along` meets its contract: what is left of the count is as many as there are, and those that stand there again from entry k on
-- (CountLaws). Assumes nothing.
use Prim.Native.Nat.{◌+◌}
use mathlib.Core.Path.{◌≡◌}
use lib.ListN.{length}
use Rattle.hash_order.specs.Order.{ascend}
use Rattle.rules.specs.Hash.{hashes_at}
use Rattle.hash_once.proofs.CountLaws.{again_from}
use Rattle.hash_once.proofs.count.count_along.Given as goal

abbrev pub invariant-loop-k : goal.invariant-loop-k
invariant-loop-k l =
    l.once ≡ length (ascend (hashes_at l.list 0 l.count)) + again_from l.list l.order l.count l.k
