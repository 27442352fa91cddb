-- `offer_calls::answer::offer_words` meets its contract: one case for each variant (OfferWordLaws). Assumes nothing.
use Rattle.offer_calls.proofs.OfferWordLaws.{offer_made}
use Rattle.offer_calls.proofs.answer.offer_words.Goals as goal

pub returns-in-Ok : goal.returns-in-Ok
returns-in-Ok c = rw c.in-Ok.is (offer_made c.in-Ok.document c.in-Ok.hashes)

pub returns-in-Err : goal.returns-in-Err
returns-in-Err c = rw c.in-Err.is c.refusal_words.ensures
