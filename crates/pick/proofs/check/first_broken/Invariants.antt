-- `pick::check::first_broken` meets its contract: the hashes that are left give the place that all of them do (BrokenLaws), and what the marks say of a row
-- that was found is what the hashes say (GoesLaws). Assumes nothing.
use Prim.Native.Nat.{ℕ}
use mathlib.Core.List.{List}
use mathlib.Core.Path.{◌≡◌}
use Rattle.rules.specs.Hash.{hashes_at}
use Rattle.table.specs.TableBytes.{rows_at}
use Rattle.pick.specs.Internal.PickMarks.{RowMarks}
use Rattle.pick.specs.Picking.{first_broken}
use Rattle.pick.proofs.BrokenLaws.{broken_from}
use Rattle.pick.proofs.check.first_broken.Given as goal

abbrev pub invariant-loop-k : goal.invariant-loop-k
invariant-loop-k l =
    (list : List ℕ) → RowMarks l.table l.n list l.listed
    → broken_from (rows_at l.table 0 l.n) list l.pick l.count l.from l.k
    ≡ first_broken (rows_at l.table 0 l.n) list (hashes_at l.pick 0 l.count) 0 0 (hashes_at l.pick 0 l.count)
