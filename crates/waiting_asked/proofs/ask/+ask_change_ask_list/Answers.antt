-- The proof of the cycle of calls {ask_change, ask_list}. Each way through ask_change is a constructor of the relation `Asks`; each turn of ask_list's
-- loop puts one change before the rest. Assumes nothing.
use native.Mathlib.Omega.{arith}
use mathlib.Core.Path.{refl, ◌∙◌}
use native.Mathlib.Nat.{add-zero, sub-zero}
use Rattle.waiting.proofs.WaitingLaws.{asks_of_waiting}
use Rattle.waiting_asked.specs.Asking.{marked}
use Rattle.waiting_asked.proofs.AskLaws.{as_many_marks, fewer_unmarked, one_less, mark_set, still_askable, row_away, row_waits, list_ends, list_on}
use Rattle.waiting_asked.proofs.ask.+ask_change_ask_list.Goals as goal

pub ask_change-returns-then-m-row : goal.ask_change-returns-then-m-row
ask_change-returns-then-m-row t c = row_away _ _ c.if-m-row.true

pub ask_change-returns-then-marks-row : goal.ask_change-returns-then-marks-row
ask_change-returns-then-marks-row t c = marked c.if-marks-row.true

pub ask_change-ask_list-requires : goal.ask_change-ask_list-requires
ask_change-ask_list-requires t c = (
  one_less _ _ _ (omega (arith, c.requires.marked, c.if-m-row.false)) c.if-marks-row.false c.decreases,
  (mark_set c.requires _, c.if-m-row.false),
)

pub ask_change-returns : goal.ask_change-returns
ask_change-returns t c = row_waits _ _ c.if-m-row.false c.requires.marked c.if-marks-row.false c.ask_list.ensures

pub ask_list-loop-i-init : goal.ask_list-loop-i-init
ask_list-loop-i-init t c =
    let at = c.args in
    record {
      same_marks = refl;
      less = omega arith;
      rest =
          λ marks' x.
          rw (asks_of_waiting at.waiting.now at.m at.row c.requires.1, ← c.asks_count-entries.ensures) (rw (add-zero, sub-zero) at x);
    }

pub ask_list-ask_change-requires : goal.ask_list-ask_change-requires
ask_list-ask_change-requires t c =
    let v = c.loop-i.invariant in
    (omega (arith, v.less, c.decreases), still_askable c.requires.0 v.same_marks)

pub ask_list-loop-i-preserved : goal.ask_list-loop-i-preserved
ask_list-loop-i-preserved t c =
    let v = c.loop-i.invariant in
    record {
      same_marks = as_many_marks c.ask_change.ensures ∙ v.same_marks;
      less = omega (arith, fewer_unmarked c.ask_change.ensures, v.less);
      rest = λ marks' x. v.rest marks' (list_on _ _ _ _ _ _ _ c.loop-i-test.true c.find_waiting-next.ensures c.ask_change.ensures x);
    }

pub ask_list-returns : goal.ask_list-returns
ask_list-returns t c = c.loop-i.invariant.rest _ (list_ends _ _ _ _ _ (omega arith))
