-- `plan_decide::decide::says_picked` meets its contract: a pick that isn't accepted decides, and else there is what is said. Assumes nothing.
use Rattle.rules.proofs.Cases.{handed_on}
use Rattle.rules.specs.declared.refusal.Refusal.TheVariants.{BadPick}
use Rattle.session.proofs.MappedLaws.{mapped_ok, mapped_err}
use Rattle.plan_decide.proofs.DecideLaws.{pick_breaks, pick_fine}
use Rattle.plan_decide.proofs.decide.says_picked.Goals as goal

pub returns-in_err-map_err : goal.returns-in_err-map_err
returns-in_err-map_err c =
    let w = mapped_err BadPick _ c.in_err-map_err.ensures.cases in
    rw (handed_on c.from_residual.ensures.1, w.refusal) (pick_breaks _ _ _ w.is)

pub returns : goal.returns
returns c = pick_fine _ _ (mapped_ok BadPick _ c.in_ok-map_err.ensures.cases) c.says.ensures
