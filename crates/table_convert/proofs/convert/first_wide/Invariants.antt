-- `table_convert::convert::first_wide` meets its contract: the first wide one of the rows from i on is that of all, until row i is one or no row is
-- left. Assumes nothing.
use mathlib.Core.Path.{◌≡◌}
use Rattle.table.proofs.CheckLaws.{testing}
use Rattle.table.specs.TableBytes.{first_bad}
use Rattle.table_convert.specs.Internal.RowsPut.{count_fits}
use Rattle.table_convert.proofs.convert.first_wide.Given as goal

abbrev pub invariant-loop-i : goal.invariant-loop-i
invariant-loop-i l =
    testing (count_fits l.d l.room l.table) l.n l.i ≡ first_bad (count_fits l.d l.room l.table) 0 l.n
