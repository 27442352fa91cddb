-- The session that a struct of counts is, with the lists that are lent beside it.
use Rattle.std.specs.Prelude.{ℕ, ◌*◌, List, length, take, Option, Some, None}
use Rattle.std.proofs.Math.Option.{Option as Maybe, none, some}
use Rattle.bloom.specs.Have.{Have, have_words, haves_of}
use Rattle.rules.specs.Hash.{hashes_at}
use Rattle.session_state.specs.Session.{State}
use Rattle.session_state.specs.declared.session.Session.{Session}

-- The lent lists of a session: buffers of hashes, and the peer's haves as words over bytes.
pub record Lent : Type 0 where
  pub shared : List ℕ
  pub last_sent : List ℕ
  pub their_heads : List ℕ
  pub their_need : List ℕ
  pub haves : List ℕ
  pub bytes : List ℕ
  pub sent : List ℕ

-- The records of the first n haves.
abbrev pub kept_haves : List ℕ → ℕ → List ℕ
kept_haves haves n = take (have_words * n) haves

-- How many were heard: none where nothing was.
abbrev pub heard_count : Option ℕ → ℕ
heard_count None = 0
heard_count (Some n) = n

-- What the peer said last, which may be absent: the first hashes of a buffer, or the first haves.
unfoldable pub heard_hashes : List ℕ → Option ℕ → Maybe (List ℕ)
heard_hashes s None = none
heard_hashes s (Some n) = some (hashes_at s 0 n)

-- The haves that the peer said last, which may be absent: the first records of a list, over the lent bytes.
unfoldable pub heard_haves : List ℕ → List ℕ → Option ℕ → Maybe (List Have)
heard_haves s haves None = none
heard_haves s haves (Some n) = some (haves_of s (kept_haves haves n))

-- The session that counts and lent lists are.
abbrev pub state_of : Session → Lent → State
state_of s l =
    record {
      shared_heads = hashes_at l.shared 0 s.shared_heads;
      last_sent_heads = hashes_at l.last_sent 0 s.last_sent_heads;
      their_heads = heard_hashes l.their_heads s.their_heads;
      their_need = heard_hashes l.their_need s.their_need;
      their_have = heard_haves l.bytes l.haves s.their_have;
      sent_hashes = hashes_at l.sent 0 s.sent_hashes;
      in_flight = s.in_flight;
      have_responded = s.have_responded;
      supports_v2 = s.supports_v2;
      supports_reset = s.supports_reset;
      read_only = s.read_only;
      peer_read_only = s.peer_read_only;
      needs_reset = s.needs_reset;
    }

-- The counts of a session: how long its lists are, and its flags.
abbrev pub count_heard : {A : Type 0} → Maybe (List A) → Option ℕ
count_heard none = None
count_heard (some l) = Some (length l)

-- The counts of a session.
abbrev pub counts_of : State → Session
counts_of s =
    record {
      shared_heads = length s.shared_heads;
      last_sent_heads = length s.last_sent_heads;
      their_heads = count_heard s.their_heads;
      their_need = count_heard s.their_need;
      their_have = count_heard s.their_have;
      sent_hashes = length s.sent_hashes;
      in_flight = s.in_flight;
      have_responded = s.have_responded;
      supports_v2 = s.supports_v2;
      supports_reset = s.supports_reset;
      read_only = s.read_only;
      peer_read_only = s.peer_read_only;
      needs_reset = s.needs_reset;
    }
