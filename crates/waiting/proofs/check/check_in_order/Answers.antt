-- `waiting::check::check_in_order` meets its contract: one law of CheckLaws for each answer, and where no row is bad all stand in order. Assumes
-- nothing.
use Rattle.waiting.proofs.CheckLaws.{waiting_past, waiting_bad, waiting_partial, waiting_fine, refused_in_order, good_in_order}
use Rattle.waiting.proofs.check.check_in_order.Goals as goal

pub returns-then-waiting : goal.returns-then-waiting
returns-then-waiting c = refused_in_order _ _ _ _ (waiting_past _ _ c.if-waiting.true)

pub returns-then-bad-m : goal.returns-then-bad-m
returns-then-bad-m c =
    refused_in_order _ _ _ _ (waiting_bad _ _ c.if-waiting.false _ c.first_bad_waiting-bad.ensures.is c.if-bad-m.true)

pub returns-then-waiting-ne0 : goal.returns-then-waiting-ne0
returns-then-waiting-ne0 c =
    refused_in_order _ _ _ _
    (waiting_partial _ _ c.if-waiting.false _ c.first_bad_waiting-bad.ensures.is c.if-bad-m.false c.if-waiting-ne0.true)

pub returns : goal.returns
returns c =
    good_in_order _ _ _ _
    (waiting_fine _ _ c.if-waiting.false _ c.first_bad_waiting-bad.ensures.is c.if-bad-m.false c.if-waiting-ne0.false)
    (c.first_bad_waiting-bad.ensures.sorted c.if-bad-m.false)
