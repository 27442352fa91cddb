-- `offer_calls::calls::bt_offer` meets its contract: the words and the list of what an offer ensures. Assumes nothing.
use Rattle.offer_calls.proofs.OfferWordLaws.{offer_answered}
use Rattle.offer_calls.proofs.calls.bt_offer.Goals as goal

pub returns : goal.returns
returns c =
    offer_answered _ (rw c.session_of.ensures at c.offer-offered.ensures) c.offer_words.ensures
