-- `table::check::first_unsound` meets its contract: the first unsound one of the rows from i on is that of all, until row i is one or no row
-- is left. Assumes nothing.
use mathlib.Core.Path.{◌≡◌}
use Rattle.table.specs.TableBytes.{first_bad}
use Rattle.table.specs.Internal.OwnBytes.{row_sound_of}
use Rattle.table.proofs.CheckLaws.{testing}
use Rattle.table.proofs.check.first_unsound.Given as goal

abbrev pub invariant-loop-i : goal.invariant-loop-i
invariant-loop-i l = testing (row_sound_of l.d l.table) l.n l.i ≡ first_bad (row_sound_of l.d l.table) 0 l.n
