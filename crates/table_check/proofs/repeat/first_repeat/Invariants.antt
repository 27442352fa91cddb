-- `table_check::repeat::first_repeat` meets its contract: the least of what is found so far and what is found along the rest of the order stays the
-- same from turn to turn (RepeatLaws). Assumes nothing.
use mathlib.Core.Path.{◌≡◌}
use Rattle.table.specs.TableBytes.{first_bad}
use Rattle.table_check.specs.Internal.Repeats.{RowOrder, new_hash}
use Rattle.table_check.proofs.RepeatLaws.{seeking}
use Rattle.table_check.proofs.repeat.first_repeat.Given as goal

abbrev pub invariant-loop-k : goal.invariant-loop-k
invariant-loop-k l =
    (o : RowOrder l.d l.table l.order l.n) → seeking l.d l.table l.order l.n o l.first l.k ≡ first_bad (new_hash l.d l.table) 0 l.n
