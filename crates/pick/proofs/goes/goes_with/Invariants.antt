-- `pick::goes::goes_with` meets its contract: the numbers from the j-th on decide what all of them do (GoesLaws). A number of a good row is below the row's
-- own, so it has a mark. Assumes nothing.
use mathlib.Core.Path.{◌≡◌}
use Rattle.table.specs.TableBytes.{used_at}
use Rattle.pick.specs.Internal.PickMarks.{marked_go}
use Rattle.pick.proofs.GoesLaws.{go_from}
use Rattle.pick.proofs.goes.goes_with.Given as goal

abbrev pub invariant-loop-j : goal.invariant-loop-j
invariant-loop-j l =
    go_from l.table l.i l.listed l.picks l.j ≡ marked_go l.listed l.picks (used_at l.table l.i)
