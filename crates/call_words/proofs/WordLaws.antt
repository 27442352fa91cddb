-- A session and its words: what is written is read back, so that no two sessions have the same words.
use Prim.Native.Nat.{ℕ}
use mathlib.Core.Bool.{Bool, true, false}
use mathlib.Core.List.{[], ◌∷◌}
use mathlib.Core.Path.{◌≡◌, refl, sym, ap, ◌∙◌}
use borrow.Author.Tests.{eq-eqb, ne_eqb}
use mir.Val.{bool_byte}
use Rattle.session_state.specs.Value.{heard_count}
use Rattle.session_state.specs.declared.session.Session.{Session}
use Rattle.call_words.specs.SessionWords.{flag_word, flag_of, heard_present, heard_of, session_words, session_of}
use Rattle.std.specs.Prelude.{Option, Some, None}

-- ---- what may be absent

module _ (present count : ℕ) where
  pub heard_absent : present ≡ 0 → None ≡ heard_of present count
  unfolding heard_of
  heard_absent e = rw (eq-eqb present 0 e)

  pub heard_there : (present ≡ 0 → ⊥) → Some count ≡ heard_of present count
  unfolding heard_of
  heard_there h = rw (ne_eqb present 0 h)

-- ---- there and back

-- a flag as code casts it
pub flag_byte : (b : Bool) → bool_byte b ≡ flag_word b
flag_byte true = refl
flag_byte false = refl

-- the words as code puts them together
pub words_made : (s : Session) (p n q m r k : ℕ)
    → p ≡ heard_present s.their_heads
    → n ≡ heard_count s.their_heads
    → q ≡ heard_present s.their_need
    → m ≡ heard_count s.their_need
    → r ≡ heard_present s.their_have
    → k ≡ heard_count s.their_have
    → s.shared_heads ∷ s.last_sent_heads ∷ p ∷ n ∷ q ∷ m ∷ r ∷ k ∷ s.sent_hashes
    ∷ bool_byte s.in_flight ∷ bool_byte s.have_responded ∷ bool_byte s.supports_v2 ∷ bool_byte s.supports_reset
    ∷ bool_byte s.read_only ∷ bool_byte s.peer_read_only ∷ bool_byte s.needs_reset ∷ []
    ≡ session_words s
words_made s p n q m r k e f g h i j =
    rw (e, f, g, h, i, j, flag_byte s.in_flight, flag_byte s.have_responded, flag_byte s.supports_v2, flag_byte s.supports_reset, flag_byte s.read_only, flag_byte s.peer_read_only, flag_byte s.needs_reset)

flag_back : (b : Bool) → flag_of (flag_word b) ≡ b
flag_back true = refl
flag_back false = refl

heard_back : (h : Option ℕ) → heard_of (heard_present h) (heard_count h) ≡ h
unfolding heard_of
heard_back None = refl
heard_back (Some n) = refl

-- The words of a session are that session's.
pub words_back : (s : Session) → session_of (session_words s) ≡ s
words_back s =
    rw (heard_back s.their_heads, heard_back s.their_need, heard_back s.their_have, flag_back s.in_flight, flag_back s.have_responded, flag_back s.supports_v2, flag_back s.supports_reset, flag_back s.read_only, flag_back s.peer_read_only, flag_back s.needs_reset)

pub words_once : (s t : Session) → session_words s ≡ session_words t → s ≡ t
words_once s t e = sym (words_back s) ∙ ap session_of e ∙ words_back t
