-- `plan_parts::sent::mark_new` meets its contract: a law for the document and one for a list (SentLaws). Assumes nothing.
use Rattle.plan_parts.proofs.SentLaws.{whole_new, list_new}
use Rattle.plan_parts.proofs.sent.mark_new.Goals as goal

pub returns-then-document : goal.returns-then-document
returns-then-document c =
    λ sent s. whole_new _ _ _ c.requires.0 _ _ _ sent _ _ s c.if-document.true _ c.flip.ensures

pub returns : goal.returns
returns c =
    λ sent s. list_new _ _ _ c.requires.0 _ _ _ sent _ _ s c.if-document.false _ _ c.copy_marks.ensures c.mark_picked.ensures
