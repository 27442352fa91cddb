-- `table::check::numbers_good` meets its contract: the numbers from the j-th on climb from `least` as all of them do from 0, until one doesn't
-- or none is left. Assumes nothing.
use mathlib.Core.Path.{◌≡◌}
use Rattle.table.specs.TableBytes.{used_of, numbers_good}
use Rattle.table.proofs.RowLaws.{climbing}
use Rattle.table.proofs.check.numbers_good.Given as goal

abbrev pub invariant-loop-j : goal.invariant-loop-j
invariant-loop-j l =
    climbing l.d l.table l.i l.count l.least l.j ≡ numbers_good l.i (used_of l.d l.table l.i)
