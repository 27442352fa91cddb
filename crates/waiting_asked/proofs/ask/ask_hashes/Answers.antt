-- `waiting_asked::ask::ask_hashes` meets its contract: whatever the rest of the list leads to, the whole list leads to from the start. Assumes nothing.
use mathlib.Core.Path.{refl, ◌∙◌}
use native.Mathlib.Nat.{add-zero, sub-zero}
use native.Mathlib.Omega.{arith}
use Rattle.waiting_asked.proofs.AskLaws.{as_many_marks, still_askable, list_ends, list_on}
use Rattle.waiting_asked.proofs.ask.ask_hashes.Goals as goal

pub loop-i-init : goal.loop-i-init
loop-i-init c = record { same_marks = refl; rest = λ marks' x. rw (add-zero, sub-zero) at x }

pub ask_change-requires : goal.ask_change-requires
ask_change-requires c =
    still_askable c.requires.0 c.loop-i.invariant.same_marks

pub loop-i-preserved : goal.loop-i-preserved
loop-i-preserved c =
    record {
      same_marks = as_many_marks c.ask_change.ensures ∙ c.loop-i.invariant.same_marks;
      rest = λ marks' x. c.loop-i.invariant.rest marks' (list_on _ _ _ _ _ _ _ c.loop-i-test.true c.find_waiting-next.ensures c.ask_change.ensures x);
    }

pub returns : goal.returns
returns c = c.loop-i.invariant.rest _ (list_ends _ _ _ _ _ (omega arith))
