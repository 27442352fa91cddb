-- `plan_calls::plan_settled::bt_plan_settled` meets its contract: what a list answers keeps the filter rules over any rows. Assumes nothing.
use mathlib.Core.Path.{refl, ◌∙◌}
use Rattle.plan.proofs.OverLaws.{whole_plans, by_same, listed_good}
use Rattle.plan_calls.proofs.PlanWordLaws.{plan_answered, called_as}
use Rattle.plan_calls.proofs.plan_settled.bt_plan_settled.Goals as goal

pub generate_sync_message-planned-requires : goal.generate_sync_message-planned-requires
generate_sync_message-planned-requires c = listed_good _ _ _ c.setting_at.ensures

pub returns : goal.returns
returns c =
    plan_answered _
    (called_as (whole_plans _ _ _ _ _ _ _ _ refl ∙ by_same _ _ _ _ _ c.setting_at.ensures)
    (rw c.session_of.ensures at c.generate_sync_message-planned.ensures))
    c.planned_session.ensures c.planned_words.ensures
