-- `pick::pick::pick_marked` meets its contract: at each row the marks before it are those of what was picked, and going on from there gives the whole pick
-- (PickedRows). Assumes nothing.
use Rattle.pick.proofs.PickedRows.{PickedSoFar}
use Rattle.pick.proofs.pick.pick_marked.Given as goal

abbrev pub invariant-loop-row : goal.invariant-loop-row
invariant-loop-row l =
    PickedSoFar l.table l.n l.row_sizes l.budget l.listed l.picks l.left l.count l.row
