-- The call that reads a saved state has one answer and leaves one session and one buffer.
use mathlib.Core.List.{List}
use mathlib.Core.Path.{◌≡◌, sym, ap, ◌∙◌}
use Prim.Native.Nat.{ℕ}
use Rattle.session_saved.specs.Saved.{Restored}
use Rattle.state_calls.specs.StateCalls.{saved_words, saved_session, StateRead}
use Rattle.std.specs.Prelude.{Result}
use Rattle.rules.specs.declared.refusal.Refusal.{Refusal}
use Rattle.session_state.specs.declared.session.Session.{Session}

pub state_read : (s sharedIn sharedOut sessionIn sessionOut words : List ℕ) (r : Result Session Refusal) → Restored s sharedIn sharedOut r
    → sessionOut ≡ saved_session r sessionIn
    → words ≡ saved_words r
    → StateRead s sharedIn sharedOut sessionIn sessionOut words
state_read s sharedIn sharedOut sessionIn sessionOut words r l e f =
    record {
      answer = f ∙ ap saved_words l.answer;
      shared = l.content;
      session = e ∙ ap (λ (k : Result Session Refusal). saved_session k sessionIn) l.answer;
    }

pub state_read_once : {s sharedIn sessionIn b₁ b₂ t₁ t₂ w₁ w₂ : List ℕ} → StateRead s sharedIn b₁ sessionIn t₁ w₁
    → StateRead s sharedIn b₂ sessionIn t₂ w₂
    → (w₁ ≡ w₂) × (b₁ ≡ b₂) × (t₁ ≡ t₂)
state_read_once x y =
    (x.answer ∙ sym y.answer, x.shared ∙ sym y.shared, x.session ∙ sym y.session)
