-- Receiving as an exported call: its answer as words, and the session's words at exit.
use Rattle.std.specs.Prelude.{ℕ, Bool, List, [], ◌∷◌, ◌≡◌, Result, Ok, Err}
use Rattle.call_words.specs.Answer.{refusal_words}
use Rattle.call_words.specs.SessionWords.{session_words, session_of}
use Rattle.rules.specs.declared.refusal.Refusal.TheVariants.{LoadFailed}
use Rattle.session.specs.Receive.{Received}
use Rattle.session.specs.ReceiveCall.{receive_with, received_roomed, received_rooms, received_answer, received_lists}
use Rattle.session.specs.declared.receive_answer.ReceiveAnswer.{ReceiveAnswer}
use Rattle.session.specs.declared.receive_answer.ReceiveAnswer.TheVariants.{Took, Failed}
use Rattle.session_state.specs.Value.{Lent}
use Rattle.rules.specs.declared.refusal.Refusal.{Refusal}

-- 0, or the refusal; a failed load is 8.
abbrev pub received_words : Result ReceiveAnswer Refusal → List ℕ
received_words (Ok (Took s)) = 0 ∷ 0 ∷ 0 ∷ 0 ∷ []
received_words (Ok (Failed s)) = refusal_words LoadFailed
received_words (Err r) = refusal_words r

-- After a refusal the words stay as they stood, but for 8, which leaves the flags taken.
abbrev pub received_session : Result ReceiveAnswer Refusal → List ℕ → List ℕ
received_session (Ok (Took s)) before = session_words s
received_session (Ok (Failed s)) before = session_words s
received_session (Err r) before = before

-- What is received for a session's words, once there is room.
abbrev pub receive_for : List ℕ → Lent → List ℕ → List ℕ → ℕ → List ℕ → Bool → Received
receive_for words l table index before message loaded =
    received_roomed (received_rooms l) (receive_with loaded before (session_of words) l table index message)

-- What `bt_receive` leaves: its answer, the session's words, and every list.
pub record ReceiveAnswered (session₀ session₁ : List ℕ) (before after : Lent) (table index : List ℕ) (rowsBefore : ℕ) (message : List ℕ) (loaded : Bool)
    (words : List ℕ) : Type 0 where
  pub answer : words ≡ received_words (received_answer (receive_for session₀ before table index rowsBefore message loaded))
  pub session : session₁ ≡ received_session (received_answer (receive_for session₀ before table index rowsBefore message loaded)) session₀
  pub lists : after ≡ received_lists (receive_for session₀ before table index rowsBefore message loaded) before
