-- `hash_lists::compare::all_held` meets its contract: what the hashes from number k on decide is what all of them do, and the row of a hash tells
-- whether it is held. Assumes nothing.
use mathlib.Core.Path.{◌≡◌}
use Rattle.hash_order.specs.Order.{every}
use Rattle.rules.specs.Hash.{hashes_at}
use Rattle.table.specs.TableBytes.{rows_at}
use Rattle.table.specs.Table.{held}
use Rattle.hash_lists.proofs.CompareLaws.{onward}
use Rattle.hash_lists.proofs.compare.all_held.Given as goal

abbrev pub invariant-loop-k : goal.invariant-loop-k
invariant-loop-k l =
    every (held (rows_at l.table 0 l.n)) (onward l.bytes l.place l.count l.k) ≡ every (held (rows_at l.table 0 l.n)) (hashes_at l.bytes l.place l.count)
