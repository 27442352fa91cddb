-- `send::to_send::get_hashes_to_send` meets its contract: one law for each answer (SendCalls), and an accepted table is good beside its
-- index. Assumes nothing.
use mathlib.Core.Path.{sym, ◌∙◌}
use Rattle.table_index.proofs.CheckLaws.{checked_indexed}
use Rattle.rules.proofs.Cases.{handed_on}
use Rattle.rules.proofs.Outputs.{refused}
use Rattle.send.proofs.SendCalls.{send_bad, send_table, send_good}
use Rattle.send.proofs.to_send.get_hashes_to_send.Goals as goal

pub returns-then-not-passed_good : goal.returns-then-not-passed_good
returns-then-not-passed_good c = rw (send_bad _ _ _ _ _ (sym c.passed_good.ensures ∙ c.if-not-passed_good.true)) (refused _ _)

pub send_needs-requires : goal.send_needs-requires
send_needs-requires c =
    (checked_indexed _ _ _ (sym c.in_ok-n.ensures), sym c.passed_good.ensures ∙ c.if-not-passed_good.false)

pub returns-in_err-n : goal.returns-in_err-n
returns-in_err-n c =
    rw (handed_on c.from_residual.ensures.1, send_table _ _ _ _ _ (sym c.passed_good.ensures ∙ c.if-not-passed_good.false) _ (sym c.in_err-n.ensures)) (refused _ _)

pub returns : goal.returns
returns c =
    rw (send_good _ _ _ _ _ (sym c.passed_good.ensures ∙ c.if-not-passed_good.false) _ (sym c.in_ok-n.ensures)) c.send_needs.ensures
