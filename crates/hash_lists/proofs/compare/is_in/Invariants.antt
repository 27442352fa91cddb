-- `hash_lists::compare::is_in` meets its contract: what the hashes from number k on decide is what all of them do. Assumes nothing.
use mathlib.Core.Path.{◌≡◌}
use Rattle.hash_order.specs.Order.{member}
use Rattle.rules.specs.Hash.{hash_at, hashes_at}
use Rattle.hash_lists.proofs.CompareLaws.{onward}
use Rattle.hash_lists.proofs.compare.is_in.Given as goal

abbrev pub invariant-loop-k : goal.invariant-loop-k
invariant-loop-k l =
    member (hash_at l.bytes l.at) (onward l.list l.place l.count l.k) ≡ member (hash_at l.bytes l.at) (hashes_at l.list l.place l.count)
