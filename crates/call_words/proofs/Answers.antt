-- A call that writes passes on what the proved writer left and answered, as words; so it too has one answer and leaves one buffer.
use Prim.Native.Nat.{ℕ}
use mathlib.Core.List.{List}
use mathlib.Core.Path.{◌≡◌, sym, ap, ◌∙◌}
use Rattle.rules.specs.Output.{Output, Written}
use Rattle.call_words.specs.Answer.{write_words, Answered}
use Rattle.std.specs.Prelude.{Result}
use Rattle.rules.specs.declared.refusal.Refusal.{Refusal}

pub answered : (o : Output) (before after : List ℕ) (r : Result ℕ Refusal) (words : List ℕ) → Written o before after r → words ≡ write_words r
    → Answered o before after words
answered o before after r words w e = record { answer = e ∙ ap write_words w.answer; content = w.content }

pub answered_once : {o : Output} {before a₁ a₂ w₁ w₂ : List ℕ} → Answered o before a₁ w₁ → Answered o before a₂ w₂ → (w₁ ≡ w₂) × (a₁ ≡ a₂)
answered_once x y = (x.answer ∙ sym y.answer, x.content ∙ sym y.content)
