-- A receive call is the step: over memory that holds a session, with room, it answers what the step gives and leaves the session that the step leaves.
-- Assumes nothing.
use Prim.Native.Nat.{ℕ}
use mathlib.Core.Bool.{true}
use mathlib.Core.List.{List}
use mathlib.Core.Path.{◌≡◌, refl, ap, ◌∙◌}
use borrow.Author.Tests.{ltb-true, ltb-false}
use lib.Dec.{ltb}
use lib.ListN.{length}
use lib.Seq.{length-sets}
use Rattle.message_read.specs.MessageRead.{Reading, message_at}
use Rattle.session.specs.GoodState.{GoodState}
use Rattle.session.specs.Receive.{Received, left, receive_bytes}
use Rattle.session.proofs.GoodLaws.{bytes_good}
use Rattle.session.proofs.ReceiveLaws.{bytes_beyond, bytes_refused}
use Rattle.session.specs.Kept.{received_in}
use Rattle.session.proofs.KeptCalls.{receive_stays_good, failed_stays_good}
use Rattle.walk_hosts.specs.Memory.{Memory, Roomy, Holds, Tabled}
use Rattle.walk_hosts.proofs.Rooms.{received_room, took_roomed}
use Rattle.session.specs.ReceiveCall.{after_table, receive_with, received_roomed, received_rooms, received_answer, received_lists}
use Rattle.rules.specs.Hash.{Bytes, AreHashes, hashes_bytes}
use Rattle.rules.specs.declared.refusal.Refusal.{Refusal}
use Rattle.rules.proofs.Cases.{split}
use Rattle.session.specs.Laid.{laid_bytes, laid_words}
use Rattle.session.specs.Plan.{heard}
use Rattle.receive_calls.specs.ReceiveWords.{received_words, received_session, receive_for}
use Rattle.call_words.specs.SessionWords.{session_words, session_of}
use Rattle.call_words.proofs.WordLaws.{words_back}
use Rattle.session_state.specs.Session.{State}
use Rattle.session_state.specs.Value.{Lent, state_of, counts_of}
use Rattle.session_state.specs.declared.session.Session.{Session}
use Rattle.table.specs.TableBytes.{table_of}
use Rattle.table.specs.Table.{Row, rows}
use Rattle.walk_hosts.specs.Calls.{Hears}
use Rattle.walk_hosts.proofs.Planning.{table_sound, of_bytes, held_good}

still_roomy : (s : State) (l : Lent) → Roomy l → Roomy (received_in s l)
still_roomy s l r =
    record {
      shared = rw (length-sets l.shared 0 (hashes_bytes s.shared_heads)) r.shared;
      last_sent = rw (length-sets l.last_sent 0 (hashes_bytes s.last_sent_heads)) r.last_sent;
      their_heads = rw (length-sets l.their_heads 0 (hashes_bytes (heard s.their_heads))) r.their_heads;
      their_need = rw (length-sets l.their_need 0 (hashes_bytes (heard s.their_need))) r.their_need;
      haves = rw (length-sets l.haves 0 (laid_words (heard s.their_have))) r.haves;
      bytes = rw (length-sets l.bytes 0 (laid_bytes (heard s.their_have))) r.bytes;
      sent = rw (length-sets l.sent 0 (hashes_bytes s.sent_hashes)) r.sent;
    }

module _ (table : List ℕ) (tabled : Tabled table) (before : ℕ) (message : List ℕ) (said : Bytes message) (x : State) (m : Memory) (h : Holds x m) where
  abbrev t : List Row
  t = table_of table

  abbrev r : Received
  r = receive_bytes true before t x message

  are : AreHashes (rows t)
  are = (table_sound table tabled).are

  abbrev was : State
  was = state_of (counts_of x) m.lists

  taken_good : (s : State) → r ≡ Received.took s → GoodState s
  taken_good s e = (bytes_good true before t x message said are (held_good x m h)).took s e

  -- 7 is never answered
  has_room : (y : Received) → r ≡ y → received_roomed (received_rooms m.lists) y ≡ y
  unfolding received_roomed
  has_room (Received.took s) e = took_roomed s m.lists (taken_good s e) h.room
  has_room (Received.failed s) e = refl
  has_room (Received.refused q) e = refl

  receive_with_lem : (c : Session) → c ≡ counts_of x → receive_with true before c m.lists table tabled.index message ≡ r
  unfolding receive_with after_table
  receive_with_lem c counts = rw (counts, h.stays.good, tabled.good, h.stays.value)

  pub receive_for_lem : receive_for m.words m.lists table tabled.index before message true ≡ r
  receive_for_lem =
      ap (received_roomed (received_rooms m.lists)) (receive_with_lem (session_of m.words) h.counts) ∙ has_room r refl

  module _ (m' : Memory) (made : Hears table tabled.index before message m m') where
    -- it answers what the step gives
    pub receive_answer : made.answer ≡ received_words (received_answer r)
    receive_answer = made.call.answer ∙ ap (λ (y : Received). received_words (received_answer y)) receive_for_lem

    receive_words : m'.words ≡ received_session (received_answer r) m.words
    receive_words = made.call.session ∙ ap (λ (y : Received). received_session (received_answer y) m.words) receive_for_lem

    receive_lists : m'.lists ≡ received_lists r m.lists
    receive_lists = made.call.lists ∙ ap (λ (y : Received). received_lists y m.lists) receive_for_lem

    taken : (s : State) → r ≡ Received.took s → Holds s m'
    unfolding received_lists received_answer
    taken s e =
        let l : Lent = m.lists in
        let lists : m'.lists ≡ received_in s l = receive_lists ∙ rw e in
        let words : m'.words ≡ session_words (counts_of s) = receive_words ∙ rw e in
        let step : receive_bytes true before t was message ≡ Received.took s = rw h.stays.value e in
        record {
          counts = ap session_of words ∙ words_back (counts_of s);
          stays =
              rw lists
              (receive_stays_good true before t are message said (counts_of x) l h.stays.good (of_bytes l h.bytes) s step
              (received_room s l (taken_good s e) h.room));
          bytes = made.bytes;
          room = rw lists (still_roomy s l h.room);
        }

    -- 8 changes the words
    failed : (s : State) → r ≡ Received.failed s → Holds s m'
    unfolding received_lists received_answer
    failed s e =
        let l : Lent = m.lists in
        let lists : m'.lists ≡ l = receive_lists ∙ rw e in
        let words : m'.words ≡ session_words (counts_of s) = receive_words ∙ rw e in
        let step : receive_bytes true before t was message ≡ Received.failed s = rw h.stays.value e in
        record {
          counts = ap session_of words ∙ words_back (counts_of s);
          stays = rw lists (failed_stays_good true before t are message said (counts_of x) l h.stays.good (of_bytes l h.bytes) s step);
          bytes = made.bytes;
          room = rw lists h.room;
        }

    -- any other refusal leaves the memory as it was
    refused : (q : Refusal) → r ≡ Received.refused q → Holds x m'
    unfolding received_lists received_answer
    refused q e =
        let lists : m'.lists ≡ m.lists = receive_lists ∙ rw e in
        let words : m'.words ≡ m.words = receive_words ∙ rw e in
        record {
          counts = ap session_of words ∙ h.counts;
          stays = rw lists h.stays;
          bytes = made.bytes;
          room = rw lists h.room;
        }

    after_call : (y : Received) → r ≡ y → Holds (left y x) m'
    after_call (Received.took s) e = taken s e
    after_call (Received.failed s) e = failed s e
    after_call (Received.refused q) e = refused q e

    -- and the memory holds the session that the step leaves
    pub receive_holds : Holds (left r x) m'
    receive_holds = after_call r refl

-- what can't be read changes nothing
pub unread_leaves : (before : ℕ) (t : List Row) (x : State) (bytes : List ℕ) (q : Refusal) → message_at bytes ≡ Reading.refused q
    → left (receive_bytes true before t x bytes) x ≡ x
unread_leaves before t x bytes q e =
    split (ltb (length t) before)
    (λ a. rw (bytes_beyond true before t x bytes (ltb-true _ _ a)))
    (λ a. rw (bytes_refused true before t x bytes (ltb-false _ _ a) q e))
