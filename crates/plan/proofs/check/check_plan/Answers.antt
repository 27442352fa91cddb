-- `plan::check::check_plan` meets its contract: the first test that fails decides. Assumes nothing.
use mathlib.Core.Path.{refl}
use Rattle.rules.proofs.Cases.{handed_on}
use Rattle.plan.proofs.CheckLaws.{bad_session, bad_table, bad_waiting, both_good, rows_indexed}
use Rattle.plan.proofs.check.check_plan.Goals as goal

pub returns-then-not-session_good : goal.returns-then-not-session_good
returns-then-not-session_good c = bad_session _ _ _ _ _ _ c.session_good.ensures c.if-not-session_good.true

pub check_in_order-requires : goal.check_in_order-requires
check_in_order-requires c =
    (rows_indexed _ _ _ c.in_ok-n.ensures refl, c.requires)

pub returns-in_err-n : goal.returns-in_err-n
returns-in_err-n c =
    rw (handed_on c.from_residual.ensures.1)
    (bad_table _ _ _ _ _ _ c.session_good.ensures c.if-not-session_good.false c.in_err-n.ensures _ refl)

pub returns-in_err-m : goal.returns-in_err-m
returns-in_err-m c =
    rw (handed_on c.from_residual-in_err-m.ensures.1)
    (bad_waiting _ _ _ _ _ _ c.session_good.ensures c.if-not-session_good.false c.in_ok-n.ensures _ refl c.in_err-m.ensures _ refl)

pub returns : goal.returns
returns c =
    both_good _ _ _ _ _ _ c.session_good.ensures c.if-not-session_good.false c.in_ok-n.ensures _ refl c.in_ok-m.ensures _ refl
