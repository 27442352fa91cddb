-- A session kept in lent lists: each of its lists stands at the start of its buffer, its haves as records over bytes.
use Rattle.std.specs.Prelude.{ℕ, ◌*◌, ◌≤◌, true, List, ◌≡◌, length}
use Rattle.std.proofs.Math.Option.{Option, none, some}
use Rattle.std.proofs.lemmas.List.Edits.{sets}
use Rattle.bloom.specs.Have.{Have, have_words, haves_of, passed_good, passed_few}
use Rattle.session_check.specs.SessionGood.{session_good}
use Rattle.rules.specs.Hash.{hashes_at, hashes_bytes}
use Rattle.rules.specs.Sizes.{sizes}
use Rattle.session.specs.Laid.{laid_bytes, laid_words}
use Rattle.session.specs.Plan.{heard}
use Rattle.session_state.specs.Session.{State}
use Rattle.session_state.specs.Value.{Lent, kept_haves, state_of, counts_of}

-- These hashes stand at the start of a buffer.
pub record Stand (hs buffer : List ℕ) : Type 0 where
  pub fit : sizes.hash * length hs ≤ length buffer
  pub are : hashes_at buffer 0 (length hs) ≡ hs

-- The hashes that were heard stand at the start of a buffer; where nothing was heard, nothing is asked of it.
abbrev pub StandHeard : Option (List ℕ) → List ℕ → Type 0
StandHeard none buffer = Unit {0}
StandHeard (some hs) buffer = Stand hs buffer

-- These haves stand as records at the start of a list, over bytes, and are good there.
pub record StandHaves (vs : List Have) (records bytes : List ℕ) : Type 0 where
  pub fit : have_words * length vs ≤ length records
  pub are : haves_of bytes (kept_haves records (length vs)) ≡ vs
  pub good : passed_good bytes (kept_haves records (length vs)) ≡ true
  pub few : passed_few (kept_haves records (length vs)) ≡ true

-- The haves that were heard stand as records at the start of a list; where none were heard, nothing is asked of it.
abbrev pub StandHeardHaves : Option (List Have) → List ℕ → List ℕ → Type 0
StandHeardHaves none records bytes = Unit {0}
StandHeardHaves (some vs) records bytes = StandHaves vs records bytes

-- A whole session.
pub record Kept (s : State) (l : Lent) : Type 0 where
  pub shared : Stand s.shared_heads l.shared
  pub last_sent : Stand s.last_sent_heads l.last_sent
  pub their_heads : StandHeard s.their_heads l.their_heads
  pub their_need : StandHeard s.their_need l.their_need
  pub their_have : StandHeardHaves s.their_have l.haves l.bytes
  pub sent : Stand s.sent_hashes l.sent

-- A session's counts over its lists are a good session, and just this one.
pub record Stays (s : State) (l : Lent) : Type 0 where
  pub good : session_good (counts_of s) l ≡ true
  pub value : state_of (counts_of s) l ≡ s

-- ---- what calls leave of the lists: what changed stands at their start, the rest as it was

-- Planning a message changes the heads sent last and the hashes sent.
pub record PlannedRoom (s : State) (l : Lent) : Type 0 where
  pub last_sent : sizes.hash * length s.last_sent_heads ≤ length l.last_sent
  pub sent : sizes.hash * length s.sent_hashes ≤ length l.sent

-- The lists after a message was planned: heads sent last and hashes sent at the start of theirs.
abbrev pub planned_in : State → Lent → Lent
planned_in s l =
    record {
      shared = l.shared;
      last_sent = sets l.last_sent 0 (hashes_bytes s.last_sent_heads);
      their_heads = l.their_heads;
      their_need = l.their_need;
      haves = l.haves;
      bytes = l.bytes;
      sent = sets l.sent 0 (hashes_bytes s.sent_hashes);
    }

-- Taking a message may change every list. Sent hashes only become fewer, so they have room.
pub record ReceivedRoom (s : State) (l : Lent) : Type 0 where
  pub shared : sizes.hash * length s.shared_heads ≤ length l.shared
  pub last_sent : sizes.hash * length s.last_sent_heads ≤ length l.last_sent
  pub their_heads : sizes.hash * length (heard s.their_heads) ≤ length l.their_heads
  pub their_need : sizes.hash * length (heard s.their_need) ≤ length l.their_need
  pub haves : have_words * length (heard s.their_have) ≤ length l.haves
  pub bytes : length (laid_bytes (heard s.their_have)) ≤ length l.bytes

-- The lists after a message was received: what the session keeps stands at the start of each.
abbrev pub received_in : State → Lent → Lent
received_in s l =
    record {
      shared = sets l.shared 0 (hashes_bytes s.shared_heads);
      last_sent = sets l.last_sent 0 (hashes_bytes s.last_sent_heads);
      their_heads = sets l.their_heads 0 (hashes_bytes (heard s.their_heads));
      their_need = sets l.their_need 0 (hashes_bytes (heard s.their_need));
      haves = sets l.haves 0 (laid_words (heard s.their_have));
      bytes = sets l.bytes 0 (laid_bytes (heard s.their_have));
      sent = sets l.sent 0 (hashes_bytes s.sent_hashes);
    }
