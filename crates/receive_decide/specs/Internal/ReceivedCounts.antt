-- What internal contracts speak of: the numbers of a session after a message, on which it is decided, and room for what the message says. No rule of 01
-- stands here.
use Rattle.std.specs.Prelude.{ℕ, ◌+◌, ◌*◌, ◌≤◌, Bool, true, false, cond, List, ltb, length, Result, Ok, Some, Err}
use Rattle.bloom.specs.Have.{have_words, haves_of}
use Rattle.rules.specs.Sizes.{sizes}
use Rattle.rules.specs.declared.refusal.Refusal.TheVariants.{PastSize}
use Rattle.session.specs.Laid.{laid_bytes}
use Rattle.session.specs.Rooms.{or_short, if_room}
use Rattle.session_state.specs.Value.{kept_haves}
use Rattle.session_state.specs.declared.session.Session.{Session}
use Rattle.receive_haves.specs.Internal.HavesLaid.{Layable}
use Rattle.session.specs.declared.receive_answer.ReceiveAnswer.{ReceiveAnswer}
use Rattle.session.specs.declared.receive_answer.ReceiveAnswer.TheVariants.{Took, Failed}
use Rattle.session.specs.declared.receive_answer.SessionRooms.{SessionRooms}
use Rattle.receive_decide.specs.declared.decide.ReceivedCounts.{ReceivedCounts}
use Rattle.rules.specs.declared.refusal.Refusal.{Refusal}

-- ---- what is decided

-- Small enough for its bytes to be counted. How many heads are shared is tested before.
pub record SmallCounts (d : ReceivedCounts) : Type 0 where
  pub last_sent : d.last_sent ≤ sizes.hashes
  pub heads : d.heads ≤ sizes.hashes
  pub need : d.need ≤ sizes.hashes
  pub haves : d.haves ≤ sizes.haves

-- The counts of the session after a message whose flags were taken.
abbrev pub session_counts : Session → ReceivedCounts → Session
session_counts s d =
    record {
      shared_heads = d.shared;
      last_sent_heads = d.last_sent;
      their_heads = Some d.heads;
      their_need = Some d.need;
      their_have = Some d.haves;
      sent_hashes = d.sent;
      in_flight = s.in_flight;
      have_responded = s.have_responded;
      supports_v2 = s.supports_v2;
      supports_reset = s.supports_reset;
      read_only = s.read_only;
      peer_read_only = s.peer_read_only;
      needs_reset = s.needs_reset;
    }

-- Whether the lists have room, in the order in which they are tested.
unfoldable pub counts_room : ReceivedCounts → SessionRooms → Result Unit ℕ
counts_room d r =
    or_short r.shared (sizes.hash * d.shared)
    (or_short r.last_sent (sizes.hash * d.last_sent)
    (or_short r.their_heads (sizes.hash * d.heads)
    (or_short r.their_need (sizes.hash * d.need)
    (or_short r.haves (have_words * d.haves)
    (or_short r.bytes d.bytes (Ok tt))))))

-- What is decided from the numbers, in the order of the refusals.
unfoldable pub counts_decided : Session → Bool → ReceivedCounts → SessionRooms → Result ReceiveAnswer Refusal
counts_decided flagged failed d r =
    cond failed
    (Ok (Failed flagged))
    (cond (ltb sizes.hashes d.shared)
    (Err (PastSize 0))
    (if_room Err (counts_room d r) (Ok (Took (session_counts flagged d)))))

-- ---- what is put

-- Whether a message was taken.
unfoldable pub is_taken : Result ReceiveAnswer Refusal → Bool
is_taken (Ok (Took s)) = true
is_taken (Ok (Failed s)) = false
is_taken (Err r) = false

-- `count` records stand in a list, are haves over the message, and have room, laid out.
pub record LaidFit (message words : List ℕ) (count : ℕ) (records bytes : List ℕ) : Type 0 where
  pub there : have_words * count ≤ length words
  pub layable : Layable message (kept_haves words count)
  pub room : have_words * count ≤ length records
  pub bytes_room : length (laid_bytes (haves_of message (kept_haves words count))) ≤ length bytes

-- What a message says has room. Heads and need stand in it from these places on.
pub record HeardFits (d : ReceivedCounts) (message : List ℕ) (atHeads at_need : ℕ) (words last_sent their_heads their_need records bytes : List ℕ) : Type 0 where
  pub told : atHeads + sizes.hash * d.last_sent_from_message ≤ length message
  pub told_room : sizes.hash * d.last_sent_from_message ≤ length last_sent
  pub heads : atHeads + sizes.hash * d.heads ≤ length message
  pub heads_room : sizes.hash * d.heads ≤ length their_heads
  pub need : at_need + sizes.hash * d.need ≤ length message
  pub need_room : sizes.hash * d.need ≤ length their_need
  pub haves : LaidFit message words d.haves records bytes
