-- `plan_parts::body::body_for` meets its contract: one law for each answer (BodyLaws). Assumes nothing.
use mathlib.Core.Path.{sym, ◌∙◌}
use Rattle.table.proofs.TableLaws.{length_rows_at}
use Rattle.plan_parts.proofs.BodyLaws.{document_chosen, body_headless, body_long, body_list}
use Rattle.plan_parts.proofs.body.body_for.Goals as goal

pub returns-then-goes_whole : goal.returns-then-goes_whole
returns-then-goes_whole c =
    λ sent past. body_headless _ _ _ _ _ _ _ _ _ (sym c.goes_whole.ensures ∙ c.if-goes_whole.true) (document_chosen _ _ _ _ _ _ _ c.mark_document.ensures)

pub returns-then-goes_whole-2 : goal.returns-then-goes_whole-2
returns-then-goes_whole-2 c =
    λ sent past. body_long _ _ _ _ _ _ _ _ _ _ (sym c.goes_whole.ensures ∙ c.if-goes_whole.false) (length_rows_at _ _ _) (c.choose-hashes.ensures sent past)
    (sym c.goes_whole-2.ensures ∙ c.if-goes_whole-2.true) _ _ _ (document_chosen _ _ _ _ _ _ _ c.mark_document-then-goes_whole-2.ensures)

pub returns : goal.returns
returns c =
    λ sent past. body_list _ _ _ _ _ _ _ _ _ _ (sym c.goes_whole.ensures ∙ c.if-goes_whole.false) (length_rows_at _ _ _) (c.choose-hashes.ensures sent past)
    (sym c.goes_whole-2.ensures ∙ c.if-goes_whole-2.false)
