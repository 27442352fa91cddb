-- The contract that is proved of each call, held beside its arguments in the order in which C lends them. A contract with two of them exchanged, in its text
-- and in the code alike, is refused here. Assumes nothing.
use contract.Lifetimes.{Lfts}
use denote.Triple.Clauses.{AtExit}
use denote.Triple.Entry.{Args}
use Rattle.bloom.specs.Filter.{default_bits, default_probes}
use Rattle.call_words.specs.Ties.{Ties}
use Rattle.session_check.specs.SessionGood.{lent_of}
use Rattle.session.specs.PlanCall.{plan_with, plan_passed, plan_settled, plan_picked_settled, buffers_of}
use Rattle.call_words.specs.SessionWords.{session_of}
use Rattle.plan_calls.specs.PlanWords.{PlanAnswered}
use Rattle.plan_calls.specs.contracts.calls.bt_plan as of-bt-plan
use Rattle.plan_calls.proofs.calls.bt_plan.Reads as reads-bt-plan
use Rattle.plan_calls.specs.contracts.plan_picked.bt_plan_picked as of-bt-plan-picked
use Rattle.plan_calls.proofs.plan_picked.bt_plan_picked.Reads as reads-bt-plan-picked
use Rattle.plan_calls.specs.contracts.plan_settled.bt_plan_settled as of-bt-plan-settled
use Rattle.plan_calls.proofs.plan_settled.bt_plan_settled.Reads as reads-bt-plan-settled
use Rattle.plan_calls.specs.contracts.plan_with.bt_plan_with as of-bt-plan-with
use Rattle.plan_calls.proofs.plan_with.bt_plan_with.Reads as reads-bt-plan-with

-- bt_plan: sixteen arguments, of which it changes the session's words, last-sent, sent, and what stands behind the waiting table.
abbrev pub PlanTied : (κs : Lfts (of-bt-plan.ended).signature.lifetimes) → Args (of-bt-plan.ended).signature κs → AtExit of-bt-plan.ended κs → Type 0
PlanTied κs
    (session, (shared, (last-sent, (their-heads, (their-need, (haves, (bytes, (sent, (table, (index, (waiting, (heads, (need, (have, (list, (answer, _))))))))))))))))
    (session', (_, (last-sent', (_, (_, (_, (_, (sent', (_, (_, (_, (heads', (need', (have', (list', (answer', _)))))))))))))))) =
    PlanAnswered (plan_with default_bits default_probes (session_of session.now)
    (lent_of shared.now last-sent.now their-heads.now their-need.now haves.now bytes.now sent.now)
    table.now index.now waiting.now)
    session.now session'.now
    (lent_of shared.now last-sent.now their-heads.now their-need.now haves.now bytes.now sent.now)
    (lent_of shared.now last-sent'.now their-heads.now their-need.now haves.now bytes.now sent'.now)
    (buffers_of heads.now need.now have.now list.now)
    (buffers_of heads'.now need'.now have'.now list'.now)
    answer'.now

pub plan_tied : Ties of-bt-plan.ended reads-bt-plan.Post PlanTied
plan_tied κs a x u p = p

-- bt_plan_with: bits and probes come first.
abbrev pub PlanWithTied : (κs : Lfts (of-bt-plan-with.ended).signature.lifetimes) → Args (of-bt-plan-with.ended).signature κs → AtExit of-bt-plan-with.ended κs → Type 0
PlanWithTied κs
    (bits, (probes, (session, (shared, (last-sent, (their-heads, (their-need, (haves, (bytes, (sent, (table, (index, (waiting, (heads, (need, (have, (list, (answer, _))))))))))))))))))
    (_, (_, (session', (_, (last-sent', (_, (_, (_, (_, (sent', (_, (_, (_, (heads', (need', (have', (list', (answer', _)))))))))))))))))) =
    PlanAnswered (plan_passed bits probes (session_of session.now)
    (lent_of shared.now last-sent.now their-heads.now their-need.now haves.now bytes.now sent.now)
    table.now index.now waiting.now)
    session.now session'.now
    (lent_of shared.now last-sent.now their-heads.now their-need.now haves.now bytes.now sent.now)
    (lent_of shared.now last-sent'.now their-heads.now their-need.now haves.now bytes.now sent'.now)
    (buffers_of heads.now need.now have.now list.now)
    (buffers_of heads'.now need'.now have'.now list'.now)
    answer'.now

pub plan_with_tied : Ties of-bt-plan-with.ended reads-bt-plan-with.Post PlanWithTied
plan_with_tied κs a x u p = p

-- bt_plan_settled: the list, the station and the version come first.
abbrev pub PlanSettledTied : (κs : Lfts (of-bt-plan-settled.ended).signature.lifetimes) → Args (of-bt-plan-settled.ended).signature κs → AtExit of-bt-plan-settled.ended κs → Type 0
PlanSettledTied κs
    (settings, (station, (version, (session, (shared, (last-sent, (their-heads, (their-need, (haves, (bytes, (sent, (table, (index, (waiting, (heads, (need, (have, (list, (answer, _)))))))))))))))))))
    (_, (_, (_, (session', (_, (last-sent', (_, (_, (_, (_, (sent', (_, (_, (_, (heads', (need', (have', (list', (answer', _))))))))))))))))))) =
    PlanAnswered (plan_settled settings.now station version (session_of session.now)
    (lent_of shared.now last-sent.now their-heads.now their-need.now haves.now bytes.now sent.now)
    table.now index.now waiting.now)
    session.now session'.now
    (lent_of shared.now last-sent.now their-heads.now their-need.now haves.now bytes.now sent.now)
    (lent_of shared.now last-sent'.now their-heads.now their-need.now haves.now bytes.now sent'.now)
    (buffers_of heads.now need.now have.now list.now)
    (buffers_of heads'.now need'.now have'.now list'.now)
    answer'.now

pub plan_settled_tied : Ties of-bt-plan-settled.ended reads-bt-plan-settled.Post PlanSettledTied
plan_settled_tied κs a x u p = p

-- bt_plan_picked: the list, the station and the version come first, then the sizes, the budget and the pick.
abbrev pub PlanPickedTied : (κs : Lfts (of-bt-plan-picked.ended).signature.lifetimes) → Args (of-bt-plan-picked.ended).signature κs → AtExit of-bt-plan-picked.ended κs → Type 0
PlanPickedTied κs
    (settings, (station, (version, (rowSizes, (budget, (pick, (session, (shared, (last-sent, (their-heads, (their-need, (haves, (bytes, (sent, (table, (index, (waiting, (heads, (need, (have, (list, (answer, _))))))))))))))))))))))
    (_, (_, (_, (_, (_, (_, (session', (_, (last-sent', (_, (_, (_, (_, (sent', (_, (_, (_, (heads', (need', (have', (list', (answer', _)))))))))))))))))))))) =
    PlanAnswered (plan_picked_settled settings.now station version rowSizes.now budget pick.now (session_of session.now)
    (lent_of shared.now last-sent.now their-heads.now their-need.now haves.now bytes.now sent.now)
    table.now index.now waiting.now)
    session.now session'.now
    (lent_of shared.now last-sent.now their-heads.now their-need.now haves.now bytes.now sent.now)
    (lent_of shared.now last-sent'.now their-heads.now their-need.now haves.now bytes.now sent'.now)
    (buffers_of heads.now need.now have.now list.now)
    (buffers_of heads'.now need'.now have'.now list'.now)
    answer'.now

pub plan_picked_tied : Ties of-bt-plan-picked.ended reads-bt-plan-picked.Post PlanPickedTied
plan_picked_tied κs a x u p = p
