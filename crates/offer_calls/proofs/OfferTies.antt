-- The contract that is proved of the call, held beside its arguments in the order in which C lends them. A contract with two of them exchanged, in its text
-- and in the code alike, is refused here. Assumes nothing.
use contract.Lifetimes.{Lfts}
use denote.Triple.Clauses.{AtExit}
use denote.Triple.Entry.{Args}
use Rattle.call_words.specs.SessionWords.{session_of}
use Rattle.call_words.specs.Ties.{Ties}
use Rattle.plan_offer.specs.OfferCall.{offer_of}
use Rattle.session_check.specs.SessionGood.{lent_of}
use Rattle.offer_calls.specs.OfferWords.{OfferAnswered}
use Rattle.offer_calls.specs.contracts.calls.bt_offer as of-bt-offer
use Rattle.offer_calls.proofs.calls.bt_offer.Reads as reads-bt-offer

-- bt_offer: twelve arguments, of which it changes the list and the answer.
abbrev pub OfferTied : (κs : Lfts (of-bt-offer.ended).signature.lifetimes) → Args (of-bt-offer.ended).signature κs → AtExit of-bt-offer.ended κs → Type 0
OfferTied κs
    (session, (shared, (last-sent, (their-heads, (their-need, (haves, (bytes, (sent, (table, (index, (list, (answer, _))))))))))))
    (_, (_, (_, (_, (_, (_, (_, (_, (_, (_, (list', (answer', _)))))))))))) =
    OfferAnswered (offer_of (session_of session.now)
    (lent_of shared.now last-sent.now their-heads.now their-need.now haves.now bytes.now sent.now)
    table.now index.now)
    list.now list'.now answer'.now

pub offer_tied : Ties of-bt-offer.ended reads-bt-offer.Post OfferTied
offer_tied κs a x u p = p
