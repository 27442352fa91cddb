-- Words of the calls that check a session and read a saved state.
use Rattle.std.specs.Prelude.{ℕ, Bool, true, false, List, [], ◌∷◌, ◌≡◌, length, Result, Ok, Err}
use Rattle.call_words.specs.Answer.{refusal_words}
use Rattle.rules.specs.declared.refusal.Refusal.TheVariants.{BadNumbers}
use Rattle.session_saved.specs.Saved.{state_at, saved_with, loaded_into}
use Rattle.session_state.specs.Counts.{fresh_counts, fresh_read_only_counts}
use Rattle.session_state.specs.declared.session.Session.{Session}
use Rattle.call_words.specs.SessionWords.{session_words}
use Rattle.rules.specs.declared.refusal.Refusal.{Refusal}

-- The counts of a session in which nothing was said yet, read-only or not.
abbrev pub fresh_for : Bool → Session
fresh_for true = fresh_read_only_counts
fresh_for false = fresh_counts

-- The words of a checked session: 0, or refusal 10.
abbrev pub good_words : Bool → List ℕ
good_words true = 0 ∷ 0 ∷ 0 ∷ 0 ∷ []
good_words false = refusal_words BadNumbers

-- A session that is read from a saved state: the answer's words.
abbrev pub saved_words : Result Session Refusal → List ℕ
saved_words (Ok s) = 0 ∷ s.shared_heads ∷ 0 ∷ 0 ∷ []
saved_words (Err r) = refusal_words r

-- The session's words at exit: after a refusal as they were.
abbrev pub saved_session : Result Session Refusal → List ℕ → List ℕ
saved_session (Ok s) before = session_words s
saved_session (Err r) before = before

-- The call that reads a saved state s: its words, the buffer of the shared heads and the session's words at exit.
pub record StateRead (s sharedIn sharedOut sessionIn sessionOut words : List ℕ) : Type 0 where
  pub answer : words ≡ saved_words (saved_with (state_at s) (length sharedIn))
  pub shared : sharedOut ≡ loaded_into (state_at s) s sharedIn
  pub session : sessionOut ≡ saved_session (saved_with (state_at s) (length sharedIn)) sessionIn
