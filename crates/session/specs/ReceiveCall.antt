-- What the call answers, and what it leaves in the session's lists. 01, Refusal numbers, and 02, M-100, for 12: 10; 4 and 6; 12; 11; the message from its
-- first byte; 8; 4 for the joined heads; 7 for the first list that is too short.
use Rattle.std.specs.Prelude.{ℕ, ◌*◌, Bool, cond, not, List, ◌≡◌, length, Result, Ok, Err}
use Rattle.bloom.specs.Have.{have_words}
use Rattle.session.specs.Receive.{Received, receive_bytes}
use Rattle.table_index.specs.Index.{index_checked}
use Rattle.session_check.specs.SessionGood.{session_good}
use Rattle.rules.specs.Sizes.{sizes}
use Rattle.rules.specs.declared.refusal.Refusal.TheVariants.{BadNumbers}
use Rattle.session.specs.Kept.{received_in}
use Rattle.session.specs.Laid.{laid_bytes}
use Rattle.session.specs.Plan.{heard}
use Rattle.session.specs.Rooms.{or_short, if_room}
use Rattle.session_state.specs.Session.{State}
use Rattle.session_state.specs.Value.{Lent, state_of, counts_of}
use Rattle.session_state.specs.declared.session.Session.{Session}
use Rattle.table.specs.TableBytes.{table_of}
use Rattle.session.specs.declared.receive_answer.ReceiveAnswer.{ReceiveAnswer}
use Rattle.session.specs.declared.receive_answer.ReceiveAnswer.TheVariants.{Took, Failed}
use Rattle.session.specs.declared.receive_answer.SessionRooms.{SessionRooms}
use Rattle.rules.specs.declared.refusal.Refusal.{Refusal}

-- ---- what is received, for a session as counts with its lent lists, and a table and its index as bytes

-- 4 and 6 for the table, 12 for its index; the rest wants its rows.
unfoldable pub after_table : Result ℕ Refusal → Received → Received
after_table (Ok n) p = p
after_table (Err r) p = Received.refused r

-- 10 comes first.
unfoldable pub receive_with : Bool → ℕ → Session → Lent → List ℕ → List ℕ → List ℕ → Received
receive_with loaded before s l table index message =
    cond (not (session_good s l))
    (Received.refused BadNumbers)
    (after_table (index_checked table index) (receive_bytes loaded before (table_of table) (state_of s l) message))

-- ---- room: 7 comes last

-- The session's lists: shared, last-sent, their heads and need, the haves' records in words, then their bytes. Sent hashes only become fewer.
unfoldable pub kept_room : State → SessionRooms → Result Unit ℕ
kept_room s r =
    or_short r.shared (sizes.hash * length s.shared_heads)
    (or_short r.last_sent (sizes.hash * length s.last_sent_heads)
    (or_short r.their_heads (sizes.hash * length (heard s.their_heads))
    (or_short r.their_need (sizes.hash * length (heard s.their_need))
    (or_short r.haves (have_words * length (heard s.their_have))
    (or_short r.bytes (length (laid_bytes (heard s.their_have))) (Ok tt))))))

-- 7 comes last, and only where nothing was refused.
unfoldable pub received_roomed : SessionRooms → Received → Received
received_roomed r (Received.took s) = if_room Received.refused (kept_room s r) (Received.took s)
received_roomed r (Received.failed s) = Received.failed s
received_roomed r (Received.refused refusal) = Received.refused refusal

-- ---- the answer, and the lists at exit: what is kept at their start, the rest as it was

-- What the call answers.
unfoldable pub received_answer : Received → Result ReceiveAnswer Refusal
received_answer (Received.took s) = Ok (Took (counts_of s))
received_answer (Received.failed s) = Ok (Failed (counts_of s))
received_answer (Received.refused r) = Err r

-- The lists at exit: what the session keeps at their start; after a failed load and any other refusal all as they were.
unfoldable pub received_lists : Received → Lent → Lent
received_lists (Received.took s) l = received_in s l
received_lists (Received.failed s) l = l
received_lists (Received.refused r) l = l

-- How long the lists are.
abbrev pub received_rooms : Lent → SessionRooms
received_rooms l =
    record {
      shared = length l.shared;
      last_sent = length l.last_sent;
      their_heads = length l.their_heads;
      their_need = length l.their_need;
      haves = length l.haves;
      bytes = length l.bytes;
    }

-- What the call ensures.
pub record ReceiveCalled (p : Received) (before after : Lent) (r : Result ReceiveAnswer Refusal) : Type 0 where
  pub answer : r ≡ received_answer (received_roomed (received_rooms before) p)
  pub lists : after ≡ received_lists (received_roomed (received_rooms before) p) before
