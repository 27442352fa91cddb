-- `plan::plan::generate_sync_message` meets its contract: refusals pass on and leave the buffers, those of the list and of the pick behind the tests'; else
-- the plan is that of what was checked. Assumes nothing.
use mathlib.Core.Path.{refl, sym}
use Rattle.rules.proofs.Cases.{handed_on}
use Rattle.plan.proofs.CheckLaws.{refused_called, later_refused, list_refused, pick_refused, pick_passed, pick_short, checked, same_rows, good_plans}
use Rattle.plan.proofs.plan.generate_sync_message.Goals as goal

pub plan_checked-requires : goal.plan_checked-requires
plan_checked-requires c = (
  checked _ _ _ _ _ _ _ _ c.in_ok-rows.ensures refl,
  c.requires.each _ c.in-Ok.is,
  pick_short _ _ (sym c.in_ok-passed_hashes.ensures),
)

pub returns-in_err-rows : goal.returns-in_err-rows
returns-in_err-rows c =
    rw (handed_on c.from_residual.ensures.1) (refused_called _ _ _ _ _ _ _ _ c.in_err-rows.ensures.answer refl)

pub returns-in-Err : goal.returns-in-Err
returns-in-Err c =
    later_refused _ _ _ _ _ _ _ _ c.in_ok-rows.ensures refl _ _ (list_refused _ _ _ _ _ _ _ c.in-Err.is) _

pub returns-in_err-passed_hashes : goal.returns-in_err-passed_hashes
returns-in_err-passed_hashes c =
    rw (handed_on c.from_residual-in_err-passed_hashes.ensures.1)
    (later_refused _ _ _ _ _ _ _ _ c.in_ok-rows.ensures refl _ _
    (pick_refused _ _ _ _ _ _ _ c.in-Ok.is _ (sym c.in_err-passed_hashes.ensures)) _)

pub returns : goal.returns
returns c =
    rw (
      good_plans _ _ _ _ _ _ _ _ c.in_ok-rows.ensures refl _,
      pick_passed _ _ _ _ _ _ _ c.in-Ok.is _ (sym c.in_ok-passed_hashes.ensures),
      same_rows _ _ _ _ _ _ _ _ c.in_ok-rows.ensures refl,
    )
    c.plan_checked.ensures
