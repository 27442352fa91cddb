-- A call of receiving has one answer and leaves one content of each list: both are equal to what was received. Assumes nothing.
use mathlib.Core.Path.{◌≡◌, sym, ◌∙◌}
use Rattle.session.specs.Receive.{Received}
use Rattle.session_state.specs.Value.{Lent}
use Rattle.session.specs.declared.receive_answer.ReceiveAnswer.{ReceiveAnswer}
use Rattle.session.specs.ReceiveCall.{ReceiveCalled}
use Rattle.std.specs.Prelude.{Result}
use Rattle.rules.specs.declared.refusal.Refusal.{Refusal}

pub receive_called_once : {p : Received} {before after₁ after₂ : Lent} {r₁ r₂ : Result ReceiveAnswer Refusal} → ReceiveCalled p before after₁ r₁
    → ReceiveCalled p before after₂ r₂
    → (r₁ ≡ r₂) × (after₁ ≡ after₂)
receive_called_once x y = (x.answer ∙ sym y.answer, x.lists ∙ sym y.lists)
