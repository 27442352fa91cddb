-- What is decided from the numbers is what receiving gives on values, with the room tested last: a refusal, or the session taken, with room for all of it. Assumes nothing.
use Prim.Native.Nat.{ℕ, ◌≤◌, ◌<◌}
use mathlib.Core.Bool.{Bool, true, false, cond, not, ◌&&◌}
use mathlib.Core.List.{List}
use mathlib.Core.Path.{◌≡◌, refl, sym, ap}
use native.Mathlib.Omega.{arith}
use borrow.Author.Tests.{ltb-true, ltb-false, lt-ltb, le-ltb}
use lib.Dec.{ltb}
use lib.ListN.{length}
use Rattle.message_read.specs.MessageRead.{message_at, decoded_of}
use Rattle.message_read.specs.declared.parse.Places.{Places}
use Rattle.session_check.specs.SessionGood.{session_good}
use Rattle.rules.specs.Sizes.{sizes}
use Rattle.rules.specs.declared.refusal.Refusal.{Refusal}
use Rattle.rules.specs.declared.refusal.Refusal.TheVariants.{PastSize, NoRoom}
use Rattle.rules.proofs.Cases.{split}
use Rattle.session.specs.Receive.{Said, Received, loads, shared_after, received, receive}
use Rattle.session_state.specs.Session.{State}
use Rattle.session_state.specs.Value.{Lent, state_of, counts_of}
use Rattle.session_state.specs.declared.session.Session.{Session}
use Rattle.table.specs.TableBytes.{rows_at}
use Rattle.table.specs.Table.{Row}
use Rattle.receive_parts.specs.Internal.ReceiveParts.{flagged_counts}
use Rattle.session.specs.ReceiveCall.{received_roomed, received_answer, received_lists}
use Rattle.receive_make.specs.Internal.ReceiveMake.{said_at}
use Rattle.receive_decide.specs.Internal.ReceivedCounts.{session_counts, counts_room, counts_decided, is_taken}
use Rattle.session.specs.declared.receive_answer.ReceiveAnswer.{ReceiveAnswer}
use Rattle.session.specs.declared.receive_answer.ReceiveAnswer.TheVariants.{Took, Failed}
use Rattle.session.specs.declared.receive_answer.SessionRooms.{SessionRooms}
use Rattle.session.specs.Rooms.{if_room}
use Rattle.receive_decide.specs.declared.decide.ReceivedCounts.{ReceivedCounts}
use Rattle.receive.proofs.DraftLaws.{Drafted, flagged_counts_lem, shared_count, received_counts, room_is}
use Rattle.std.specs.Prelude.{Result, Ok, Err}

module _ (d : ReceivedCounts) (r : SessionRooms) (after : Session) (new : State) where
  -- The two ways that an answer and a result on values go together: all lists stay, or the session is taken.
  pub data Outcome (a : Result ReceiveAnswer Refusal) (q : Received) : Type 0 where
    leaves : ((l : Lent) → received_lists q l ≡ l) → is_taken a ≡ false → a ≡ received_answer q → Outcome a q
    takes : counts_room d r ≡ Ok tt → is_taken a ≡ true → q ≡ Received.took new → a ≡ received_answer q → Outcome a q

  pub same_answer : (a : Result ReceiveAnswer Refusal) (q : Received) → Outcome a q → a ≡ received_answer q
  same_answer a q (Outcome.leaves kept f g) = g
  same_answer a q (Outcome.takes room e f g) = g

  refuses : (refusal : Refusal) → Outcome (Err refusal) (Received.refused refusal)
  unfolding is_taken received_answer received_lists
  refuses refusal = Outcome.leaves (λ l. refl) refl refl

  -- room is asked last
  room_asked : (room : Result Unit ℕ) → counts_room d r ≡ room → counts_of new ≡ after
      → Outcome (if_room Err room (Ok (Took after))) (if_room Received.refused room (Received.took new))
  unfolding if_room received_answer is_taken
  room_asked (Ok tt) e counts = Outcome.takes e refl refl (ap (λ x. Ok (Took x)) (sym counts))
  room_asked (Err wanted) e counts = refuses (NoRoom wanted)

-- How the answer and the result on values go together for a message that was read, over its draft and the lengths of the lent lists.
abbrev pub Outcomes : Session → Lent → List ℕ → ℕ → ℕ → List ℕ → Places → ReceivedCounts → SessionRooms → Result ReceiveAnswer Refusal → Received → Type 0
Outcomes s l table n before message p d r a q =
    Outcome d r (session_counts (flagged_counts p.flags s) d) (received before (rows_at table 0 n) (state_of s l) (said_at message p)) a q

module _ (s : Session) (l : Lent) (good : session_good s l ≡ true) (table : List ℕ) (n before : ℕ) (inside : before ≤ n) (message : List ℕ) (p : Places)
    (read : decoded_of (message_at message) ≡ Ok p) (ready : List ℕ) (d : ReceivedCounts) (made : Drafted s l table n before message p ready d) (loaded : Bool)
    (r : SessionRooms) where
  abbrev v : State
  v = state_of s l

  abbrev t : List Row
  t = rows_at table 0 n

  abbrev m : Said
  m = said_at message p

  abbrev taken : Session
  taken = flagged_counts p.flags s

  abbrev fails : Bool
  fails = (ltb 0 p.chunks.count && not s.read_only) && not loaded

  abbrev Of : Result ReceiveAnswer Refusal → Received → Type 0
  Of a q = Outcomes s l table n before message p d r a q

  joined : Of (cond (ltb sizes.hashes d.shared) (Err (PastSize 0)) (if_room Err (counts_room d r) (Ok (Took (session_counts taken d)))))
      (received_roomed r (cond (ltb sizes.hashes (length (shared_after before t v m))) (Received.refused (PastSize 0)) (Received.took (received before t v m))))
  unfolding received_roomed
  joined =
      let g = shared_count s l good table n before inside message p read ready d made in
      split (ltb sizes.hashes d.shared)
      (λ e.
      let many : sizes.hashes < length (shared_after before t v m) = omega (arith, g, ltb-true sizes.hashes d.shared e) in
      rw (e, lt-ltb _ _ many) (refuses d r (session_counts taken d) (received before t v m) (PastSize 0)))
      (λ e.
      let fits : length (shared_after before t v m) ≤ sizes.hashes = omega (arith, g, ltb-false sizes.hashes d.shared e) in
      rw (e, le-ltb _ _ fits, room_is s l good table n before inside message p read ready d made r)
      (room_asked d r (session_counts taken d) (received before t v m) (counts_room d r) refl
      (received_counts s l good table n before inside message p read ready d made)))

  pub outcome : Of (counts_decided taken fails d r) (received_roomed r (receive loaded before t v m))
  unfolding counts_decided receive loads received_roomed is_taken received_answer received_lists
  outcome =
      split fails
      (λ e. rw e (Outcome.leaves (λ l. refl) refl (ap (λ x. Ok (Failed x)) (sym (flagged_counts_lem s l good p.flags)))))
      (λ e. rw e joined)
