-- An offer as a call: its words as code puts them together, and what it leaves. Assumes nothing.
use Prim.Native.Nat.{ℕ}
use mathlib.Core.Bool.{Bool}
use mathlib.Core.List.{List, [], ◌∷◌}
use mathlib.Core.Path.{◌≡◌, ap, ◌∙◌}
use mir.Val.{bool_byte}
use Rattle.call_words.proofs.WordLaws.{flag_byte}
use Rattle.plan_offer.specs.OfferCall.{Offered, OfferCalled}
use Rattle.offer_calls.specs.OfferWords.{offer_words, OfferAnswered}
use Rattle.std.specs.Prelude.{Result, Ok}
use Rattle.rules.specs.declared.refusal.Refusal.{Refusal}

pub offer_made : (document : Bool) (hashes : ℕ) → 0 ∷ bool_byte document ∷ hashes ∷ 0 ∷ [] ≡ offer_words (Ok (document, hashes))
offer_made document hashes = rw (flag_byte document)

pub offer_answered : {o : Offered} {before after words : List ℕ} (r : Result (Bool × ℕ) Refusal) → OfferCalled o before after r → words ≡ offer_words r
    → OfferAnswered o before after words
offer_answered r called e = record { answer = e ∙ ap offer_words called.answer; content = called.content }
