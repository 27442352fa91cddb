-- A session as the sixteen words that exported calls are lent: shared heads, last-sent heads; their heads, need and have, each with whether
-- it is there and how many it has; sent hashes; then the flags, in-flight, have-responded, V2, reset, read-only, peer read-only, needs-reset.
use Rattle.std.specs.Prelude.{ℕ, Bool, true, false, not, cond, List, [], ◌∷◌, eqb, get_or, Option, Some, None}
use Rattle.session_state.specs.Value.{heard_count}
use Rattle.session_state.specs.declared.session.Session.{Session}

-- A flag is written as 1 or 0; a word other than 0 is yes.
abbrev pub flag_word : Bool → ℕ
flag_word true = 1
flag_word false = 0

-- The flag that a word is.
abbrev pub flag_of : ℕ → Bool
flag_of w = not (eqb w 0)

-- What may be absent: the count of an absent list is written as 0 and ignored.
abbrev pub heard_present : Option ℕ → ℕ
heard_present None = 0
heard_present (Some n) = 1

-- What two words say that was heard.
unfoldable pub heard_of : ℕ → ℕ → Option ℕ
heard_of present count = cond (eqb present 0) None (Some count)

-- A session's sixteen words.
abbrev pub session_words : Session → List ℕ
session_words s =
    s.shared_heads
    ∷ s.last_sent_heads
    ∷ heard_present s.their_heads
    ∷ heard_count s.their_heads
    ∷ heard_present s.their_need
    ∷ heard_count s.their_need
    ∷ heard_present s.their_have
    ∷ heard_count s.their_have
    ∷ s.sent_hashes
    ∷ flag_word s.in_flight
    ∷ flag_word s.have_responded
    ∷ flag_word s.supports_v2
    ∷ flag_word s.supports_reset
    ∷ flag_word s.read_only
    ∷ flag_word s.peer_read_only
    ∷ flag_word s.needs_reset
    ∷ []

-- The session that sixteen words are.
abbrev pub session_of : List ℕ → Session
session_of w =
    record {
      shared_heads = get_or w 0 0;
      last_sent_heads = get_or w 1 0;
      their_heads = heard_of (get_or w 2 0) (get_or w 3 0);
      their_need = heard_of (get_or w 4 0) (get_or w 5 0);
      their_have = heard_of (get_or w 6 0) (get_or w 7 0);
      sent_hashes = get_or w 8 0;
      in_flight = flag_of (get_or w 9 0);
      have_responded = flag_of (get_or w 10 0);
      supports_v2 = flag_of (get_or w 11 0);
      supports_reset = flag_of (get_or w 12 0);
      read_only = flag_of (get_or w 13 0);
      peer_read_only = flag_of (get_or w 14 0);
      needs_reset = flag_of (get_or w 15 0);
    }
