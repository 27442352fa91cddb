-- `plan_calls::plan_with::bt_plan_with` meets its contract: 10 goes first of all, and bits and probes that pass keep the filter rules over any rows.
-- Assumes nothing.
use mathlib.Core.Path.{refl, sym, ◌∙◌}
use Rattle.bloom.proofs.Rules.{setting_keeps}
use Rattle.plan.proofs.OverLaws.{whole_plans, passed_bad, passed_good_lem, chosen_good}
use Rattle.plan_calls.proofs.PlanWordLaws.{plan_answered, called_as}
use Rattle.plan_calls.proofs.plan_with.bt_plan_with.Goals as goal

pub returns-then-not-pair_good : goal.returns-then-not-pair_good
returns-then-not-pair_good c =
    plan_answered _ (passed_bad _ _ _ _ _ _ _ (sym c.pair_good.ensures ∙ c.if-not-pair_good.true) _) refl c.planned_words.ensures

pub generate_sync_message-planned-requires : goal.generate_sync_message-planned-requires
generate_sync_message-planned-requires c =
    chosen_good _ (setting_keeps _ _ (sym c.pair_good.ensures ∙ c.if-not-pair_good.false)) refl

pub returns : goal.returns
returns c =
    plan_answered _
    (called_as (whole_plans _ _ _ _ _ _ _ _ refl ∙ sym (passed_good_lem _ _ _ _ _ _ _ (sym c.pair_good.ensures ∙ c.if-not-pair_good.false) 0))
    (rw c.session_of.ensures at c.generate_sync_message-planned.ensures))
    c.planned_session.ensures c.planned_words-2.ensures
