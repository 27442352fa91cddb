-- `waiting_missing::take::take_asked` meets its contract: before each turn the numbers of what the rows below this one ask for are taken, if these are
-- marked (FoundLaws). Assumes nothing.
use mathlib.Core.Bool.{false}
use lib.ListN.{get_or}
use Rattle.table.specs.TableBytes.{rows_at}
use Rattle.waiting.specs.WaitingBytes.{waitings_at}
use Rattle.waiting_missing.specs.Internal.Take.{Took}
use Rattle.waiting_missing.specs.Missing.{unknown, asks_from}
use Rattle.waiting_missing.proofs.take.take_asked.Given as goal

abbrev pub invariant-loop-row : goal.invariant-loop-row
invariant-loop-row l =
    Took l.list l.place l.entries l.waiting (unknown (rows_at l.table 0 l.n) (waitings_at l.waiting 0 l.m))
    (asks_from 0 (waitings_at l.waiting 0 l.row) (λ i. get_or l.marks i false)) l.initial.refs l.count l.refs l.found
