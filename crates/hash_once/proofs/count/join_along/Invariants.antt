-- `hash_once::count::join_along` meets its contract: what is counted, and what the entries from k on add, are together all of them (JoinLaws). Assumes
-- nothing.
use Prim.Native.Nat.{◌+◌, ◌≤◌}
use mathlib.Core.List.{◌++◌}
use mathlib.Core.Path.{◌≡◌}
use lib.ListN.{length}
use Rattle.hash_order.specs.Order.{ascend}
use Rattle.rules.specs.Hash.{hashes_at}
use Rattle.hash_once.proofs.JoinLaws.{joins_from}
use Rattle.hash_once.proofs.count.join_along.Given as goal

abbrev pub invariant-loop-k : goal.invariant-loop-k
invariant-loop-k l =
    record {
      most : l.joined ≤ l.before + l.k;
      rest : l.joined + joins_from l.list l.order l.count (hashes_at l.sent 0 l.before) l.k ≡ length (ascend (hashes_at l.list 0 l.count ++ hashes_at l.sent 0 l.before));
    }
