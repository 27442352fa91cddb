-- `plan_offer::offer::offer` meets its contract: one law for each answer (OfferLaws), and an accepted table is good beside its index. Assumes nothing.
use mathlib.Core.Path.{refl, sym, ◌∙◌}
use Rattle.rules.proofs.Cases.{handed_on}
use Rattle.session_check.proofs.GoodSessions.{session_tests, session_parts}
use Rattle.table_index.proofs.CheckLaws.{checked_indexed}
use Rattle.plan_offer.proofs.OfferLaws.{none_offered, offer_bad, offer_table, offer_good}
use Rattle.plan_offer.proofs.offer.offer.Goals as goal

pub returns-then-not-session_good : goal.returns-then-not-session_good
returns-then-not-session_good c = rw (offer_bad _ _ _ _ c.session_good.ensures c.if-not-session_good.true) (none_offered _ _)

pub offer_checked-requires : goal.offer_checked-requires
offer_checked-requires c =
    let good = sym c.session_good.ensures ∙ c.if-not-session_good.false in
    record {
      rows = checked_indexed _ _ _ (sym c.in_ok-n.ensures);
      need = (session_tests _ _ good).their_need;
      have = (session_tests _ _ good).their_have;
      there = (session_parts _ _ good).sent.there;
    }

pub returns-in_err-n : goal.returns-in_err-n
returns-in_err-n c =
    rw (handed_on c.from_residual.ensures.1, offer_table _ _ _ _ c.session_good.ensures c.if-not-session_good.false c.in_err-n.ensures _ refl)
    (none_offered _ _)

pub returns : goal.returns
returns c =
    rw (offer_good _ _ _ _ c.session_good.ensures c.if-not-session_good.false c.in_ok-n.ensures _ refl)
    (c.offer_checked.ensures _ _ _)
