-- Receiving as a call has one answer, and leaves one session and one content of every list.
use Prim.Native.Nat.{ℕ}
use mathlib.Core.Bool.{Bool}
use mathlib.Core.List.{List}
use mathlib.Core.Path.{◌≡◌, sym, ap, ◌∙◌}
use Rattle.session.specs.ReceiveCall.{ReceiveCalled, receive_with}
use Rattle.call_words.specs.SessionWords.{session_of}
use Rattle.session_state.specs.Value.{Lent}
use Rattle.session_state.specs.declared.session.Session.{Session}
use Rattle.session.specs.declared.receive_answer.ReceiveAnswer.{ReceiveAnswer}
use Rattle.receive_calls.specs.ReceiveWords.{received_words, received_session, ReceiveAnswered}
use Rattle.std.specs.Prelude.{Result}
use Rattle.rules.specs.declared.refusal.Refusal.{Refusal}

module _ {session₀ session₁ : List ℕ} {before after : Lent} {table index : List ℕ} {rows : ℕ} {message : List ℕ} {loaded : Bool} {words : List ℕ} where
  pub receive_answered : (s : Session) (r : Result ReceiveAnswer Refusal) → s ≡ session_of session₀
      → ReceiveCalled (receive_with loaded rows s before table index message) before after r
      → session₁ ≡ received_session r session₀
      → words ≡ received_words r
      → ReceiveAnswered session₀ session₁ before after table index rows message loaded words
  receive_answered s r same called e f =
      let known = rw same at called in
      record {
        answer = f ∙ ap received_words known.answer;
        session = e ∙ ap (λ (k : Result ReceiveAnswer Refusal). received_session k session₀) known.answer;
        lists = known.lists;
      }

pub receive_answered_once : {session table index message t₁ t₂ w₁ w₂ : List ℕ} {rows : ℕ} {loaded : Bool} {before l₁ l₂ : Lent}
    → ReceiveAnswered session t₁ before l₁ table index rows message loaded w₁
    → ReceiveAnswered session t₂ before l₂ table index rows message loaded w₂
    → (w₁ ≡ w₂) × (t₁ ≡ t₂) × (l₁ ≡ l₂)
receive_answered_once x y =
    (x.answer ∙ sym y.answer, x.session ∙ sym y.session, x.lists ∙ sym y.lists)
