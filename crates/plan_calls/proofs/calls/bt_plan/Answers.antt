-- `plan_calls::calls::bt_plan` meets its contract: all goes, with the crate's bits and probes, which keep the filter rules over any rows; the words, the
-- session and the buffers are those that planning ensures. Assumes nothing.
use mathlib.Core.Path.{refl, ap, ◌∙◌}
use Rattle.bloom.proofs.Rules.{default_good}
use Rattle.plan.proofs.OverLaws.{whole_plans, crate_plans, chosen_good}
use Rattle.settings.specs.Settings.{crate_choice}
use Rattle.plan_calls.proofs.PlanWordLaws.{plan_answered, called_as}
use Rattle.plan_calls.proofs.calls.bt_plan.Goals as goal
use Rattle.std.specs.Prelude.{Ok}

pub generate_sync_message-planned-requires : goal.generate_sync_message-planned-requires
generate_sync_message-planned-requires c = chosen_good crate_choice default_good (ap Ok c.crate_choice.ensures)

pub returns : goal.returns
returns c =
    plan_answered _
    (called_as (whole_plans _ _ _ _ _ _ _ _ refl ∙ crate_plans _ _ _ _ _ _ c.crate_choice.ensures)
    (rw c.session_of.ensures at c.generate_sync_message-planned.ensures))
    c.planned_session.ensures c.planned_words.ensures
