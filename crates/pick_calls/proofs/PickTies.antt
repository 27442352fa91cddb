-- The contract that is proved of each call, held beside its arguments in the order in which C lends them. A contract with two of them exchanged, in its text
-- and in the code alike, is refused here. Assumes nothing.
use mathlib.Core.Path.{◌≡◌}
use contract.Lifetimes.{Lfts}
use denote.Triple.Clauses.{AtExit}
use denote.Triple.Entry.{Args}
use Rattle.call_words.specs.Answer.{Answered}
use Rattle.call_words.specs.Ties.{Ties}
use Rattle.pick.specs.PickCalls.{check_answer, pick_output}
use Rattle.pick_calls.specs.PickWords.{pick_words}
use Rattle.pick_calls.specs.contracts.calls.bt_check_pick as of-bt-check-pick
use Rattle.pick_calls.proofs.calls.bt_check_pick.Reads as reads-bt-check-pick
use Rattle.pick_calls.specs.contracts.calls.bt_pick as of-bt-pick
use Rattle.pick_calls.proofs.calls.bt_pick.Reads as reads-bt-pick

-- bt_pick: seven arguments, of which it changes the last two.
abbrev pub PickTied : (κs : Lfts (of-bt-pick.ended).signature.lifetimes) → Args (of-bt-pick.ended).signature κs → AtExit of-bt-pick.ended κs → Type 0
PickTied κs (table, (index, (list, (row-sizes, (budget, (out, (answer, _))))))) (_, (_, (_, (_, (_, (out', (answer', _))))))) =
    Answered (pick_output table.now index.now list.now row-sizes.now budget) out.now out'.now answer'.now

pub pick_tied : Ties of-bt-pick.ended reads-bt-pick.Post PickTied
pick_tied κs a x u p = p

-- bt_check_pick: seven arguments, of which it changes the last.
abbrev pub CheckPickTied : (κs : Lfts (of-bt-check-pick.ended).signature.lifetimes) → Args (of-bt-check-pick.ended).signature κs
    → AtExit of-bt-check-pick.ended κs → Type 0
CheckPickTied κs (table, (index, (list, (row-sizes, (budget, (pick, (answer, _))))))) (_, (_, (_, (_, (_, (_, (answer', _))))))) =
    answer'.now ≡ pick_words (check_answer table.now index.now list.now row-sizes.now budget pick.now)

pub check_pick_tied : Ties of-bt-check-pick.ended reads-bt-check-pick.Post CheckPickTied
check_pick_tied κs a x u p = p
