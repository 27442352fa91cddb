-- An offer as an exported call: its answer as words, and the list at exit. 02, M-110.
use Rattle.std.specs.Prelude.{ℕ, List, [], ◌∷◌, ◌≡◌, length, Result, Ok, Err, Bool}
use Rattle.call_words.specs.Answer.{refusal_words}
use Rattle.call_words.specs.SessionWords.{flag_word}
use Rattle.plan_offer.specs.OfferCall.{Offered, offer_answer, offer_content}
use Rattle.rules.specs.declared.refusal.Refusal.{Refusal}

-- 0, whether it is the document, and the number of hashes; or the refusal.
abbrev pub offer_words : Result (Bool × ℕ) Refusal → List ℕ
offer_words (Ok (document, hashes)) = 0 ∷ flag_word document ∷ hashes ∷ 0 ∷ []
offer_words (Err r) = refusal_words r

-- What the call leaves that offers this: its words, and the list.
pub record OfferAnswered (o : Offered) (before after words : List ℕ) : Type 0 where
  pub answer : words ≡ offer_words (offer_answer o (length before))
  pub content : after ≡ offer_content o before
