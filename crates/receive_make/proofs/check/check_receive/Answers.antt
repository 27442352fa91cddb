-- `receive_make::check::check_receive` meets its contract: one way out for each test, in their order. Assumes nothing.
use mathlib.Core.Path.{sym, ◌∙◌}
use Rattle.rules.proofs.Cases.{handed_on}
use Rattle.receive_make.proofs.CheckLaws.{bad_session, bad_table, bad_before, bad_message, all_good}
use Rattle.receive_make.proofs.check.check_receive.Goals as goal

pub returns-then-not-session_good : goal.returns-then-not-session_good
returns-then-not-session_good c = bad_session _ _ _ _ _ _ (sym c.session_good.ensures ∙ c.if-not-session_good.true)

pub returns-in_err-n : goal.returns-in_err-n
returns-in_err-n c =
    rw (handed_on c.from_residual.ensures.1)
    (bad_table _ _ _ _ _ _ (sym c.session_good.ensures ∙ c.if-not-session_good.false) _ (sym c.in_err-n.ensures))

pub returns-then-n-before : goal.returns-then-n-before
returns-then-n-before c =
    bad_before _ _ _ _ _ _ (sym c.session_good.ensures ∙ c.if-not-session_good.false) _ (sym c.in_ok-n.ensures) c.if-n-before.true

pub returns-in_err-parse : goal.returns-in_err-parse
returns-in_err-parse c =
    rw (handed_on c.from_residual-in_err-parse.ensures.1)
    (bad_message _ _ _ _ _ _ (sym c.session_good.ensures ∙ c.if-not-session_good.false) _ (sym c.in_ok-n.ensures) c.if-n-before.false
    _ (sym c.in_err-parse.ensures))

pub returns : goal.returns
returns c =
    all_good _ _ _ _ _ _ (sym c.session_good.ensures ∙ c.if-not-session_good.false) _ (sym c.in_ok-n.ensures) c.if-n-before.false
    _ (sym c.in_ok-parse.ensures)
