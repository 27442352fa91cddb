-- `waiting_missing::missing::missing_beside` meets its contract: the waiting table's refusal, or what follows a good one, whose rows the check put in
-- order. Assumes nothing.
use mathlib.Core.Path.{refl, sym}
use Rattle.waiting_missing.proofs.MissingCalls.{beside_refused, beside_good}
use Rattle.rules.proofs.Cases.{handed_on}
use Rattle.waiting_missing.proofs.missing.missing_beside.Goals as goal

pub missing_from-requires : goal.missing_from-requires
missing_from-requires c =
    (c.requires, sym c.in_ok-m.ensures.answer, c.in_ok-m.ensures.sorted _ refl)

pub returns-in_err-m : goal.returns-in_err-m
returns-in_err-m c = rw (handed_on c.from_residual.ensures.1) (beside_refused _ _ _ _ _ (sym c.in_err-m.ensures.answer))

pub returns : goal.returns
returns c =
    beside_good _ _ _ _ _ (sym c.in_ok-m.ensures.answer) c.missing_from.ensures
