-- `plan_make::make::plan_asked` meets its contract: what was counted is small, what was decided of it fits, and what is put is what the call promises
-- (PutDone). Assumes nothing.
use mathlib.Core.Path.{refl}
use native.Mathlib.Omega.{arith}
use Rattle.plan_decide.proofs.FitLaws.{puts_fit}
use Rattle.plan_make.proofs.PutDone.{blank_marks, small_counted, message_ready, session_ready, asked_called}
use Rattle.plan_make.proofs.make.plan_asked.Goals as goal

pub count_plan-draft-requires : goal.count_plan-draft-requires
count_plan-draft-requires c =
    (c.requires.0, c.requires.1, blank_marks _ _ c.requires.0 c.requires.1, c.requires.4)

pub decide-planned-requires : goal.decide-planned-requires
decide-planned-requires c =
    small_counted _ _ c.requires.0 c.requires.1 c.requires.2 c.count_plan-draft.ensures.0 c.count_plan-draft.ensures.1 c.requires.3

pub put_message-requires : goal.put_message-requires
put_message-requires c =
    message_ready _ _ c.requires.0 c.requires.1 c.requires.2 c.count_plan-draft.ensures.0 c.count_plan-draft.ensures.1 c.requires.3 (puts_fit _ _ _ _ _ _ _ c.decide-planned.ensures c.puts_of-puts.ensures) _ c.heard_count.ensures

pub put_session-requires : goal.put_session-requires
put_session-requires c =
    session_ready _ _ c.requires.0 c.requires.1 c.requires.2 c.count_plan-draft.ensures.0 c.count_plan-draft.ensures.1 c.requires.3 (puts_fit _ _ _ _ _ _ _ c.decide-planned.ensures c.puts_of-puts.ensures) (omega arith)

pub returns : goal.returns
returns c =
    asked_called _ _ c.requires.0 c.requires.1 c.requires.2 c.count_plan-draft.ensures.0 c.count_plan-draft.ensures.1 c.requires.3 (puts_fit _ _ _ _ _ _ _ c.decide-planned.ensures c.puts_of-puts.ensures) _ _ _ _ _ _ _ _ _
    c.heard_count.ensures c.put_message.ensures c.put_session.ensures _ c.puts_of-puts.ensures _ refl (λ need₀ long. rw long c.decide-planned.ensures)
