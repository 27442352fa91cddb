-- A talk of calls with news at both ends is the talk of steps: from two fresh sessions on, both memories hold the sessions of walk_ends_sessions TalkEnds before each
-- message, by one message after the other (walk_hosts OneMessage). So what is said of the steps is said of the calls: what a plan call puts is the step's plan, which
-- states what an end states; a message that the step says and takes is written and taken, each call answering 0; and a talk can go on, since over memories that hold
-- sessions the next message can be made (walk_hosts Goes). Assumes nothing.
use Prim.Native.Nat.{ℕ, zero, suc, ◌≤◌, ◌<◌}
use mathlib.Core.List.{List}
use mathlib.Core.Path.{◌≡◌}
use native.Mathlib.Nat.{le_trans}
use native.Mathlib.Omega.{arith}
use lib.ListN.{length}
use Rattle.bloom.specs.declared.setting.Setting.{Setting}
use Rattle.hash_order.proofs.KeepLaws.{hashes_member, hashes_each}
use Rattle.rules.proofs.Cases.{split}
use Rattle.rules.specs.Hash.{AreHashes}
use Rattle.session.specs.Plan.{Plan, Planned}
use Rattle.session.specs.Written.{Host}
use Rattle.session_state.specs.Session.{State}
use Rattle.table.specs.Table.{Row, rows, held}
use Rattle.table.specs.TableBytes.{table_of}
use Rattle.waiting.specs.Waiting.{Waiting}
use Rattle.waiting.specs.WaitingBytes.{waiting_of}
use Rattle.walk.specs.Walk.{lacking}
use Rattle.walk_ends.specs.Joint.{Joint}
use Rattle.walk_ends_sessions.specs.TalkEnds.{said, taken, units_at, EndTables, MessageUnderway, MessageAccepted, EndsMeet}
use Rattle.walk_ends_sessions.proofs.Meeting.{sessions_meet}
use Rattle.walk_ends_sessions.proofs.Talk.{sessions_are_ends}
use Rattle.walk_hosts.specs.Calls.{plan_in}
use Rattle.walk_hosts.specs.Memory.{Fresh, Tabled}
use Rattle.walk_hosts.proofs.Goes.{MessageMade, message_goes}
use Rattle.walk_hosts.proofs.OneMessage.{message_heard, message_answered}
use Rattle.walk_hosts.proofs.Planning.{table_sound}
use Rattle.walk_hosts.proofs.Speaking.{speaking_holds, speaking_said}
use Rattle.walk_hosts.proofs.Talk.{fresh_holds}
use Rattle.walk_sessions.specs.Passing.{Passes}
use Rattle.walk_ends_hosts.specs.CallsEnds.{
  Memories,
  GoodSets,
  CallsTurn,
  TalkOfEnds,
  said_in_turn,
  AreUnits,
  TurnAnswered,
  AllMessagesGranted,
  CallsMeet,
  TurnStated,
  LendsEnds,
  GivenEnds,
  CallsAreUnits,
  CallsStateEnds,
  CallsMeetEnds,
  CallsGoEnds,
}

-- every row of a joint table is a row of one of two tables of bytes, so its rows are hashes
joint_hashes : (J : List Row) (x y : List ℕ) → Joint J (table_of x) (table_of y) → Tabled x → Tabled y → AreHashes (rows J)
unfolding held
joint_hashes J x y joint first second =
    hashes_each (rows J)
    (λ h m.
    split (held (table_of x) h)
    (λ e. hashes_member (rows (table_of x)) (table_sound x first).are h e)
    (λ e. hashes_member (rows (table_of y)) (table_sound y second).are h (rw e at (joint.only h m))))

module _ (set : ℕ → Setting) (keep : GoodSets set) (pass : ℕ → Passes) (J : List Row) (t w : ℕ → List ℕ) (hosts : ℕ → Host) where
  abbrev T : ℕ → List Row
  T = λ i. table_of (t i)

  abbrev W : ℕ → List Waiting
  W = λ i. waiting_of (w i)

  -- ---- one message

  module _ (i : ℕ) (s s' : Memories) (r : CallsTurn set pass J t w hosts i s s') (before : AreUnits set pass J t w hosts i s) where
    -- who heard it speaks next, who spoke it hears next
    next : AreUnits set pass J t w hosts (suc i) s'
    unfolding units_at said taken
    next =
        record {
          speaker =
              message_heard (set i) (keep i) (pass i) (hosts i) (t (suc i)) (w (suc i)) r.table r.waits _ _ _ before.speaker _ r.speaks
              (t (suc (suc i))) r.loaded _ _ _ _ before.hearer r.hears;
          hearer =
              speaking_holds (set i) (keep i) (pass i) (hosts i) (t (suc i)) (w (suc i)) r.table r.waits _ _ _ before.speaker _ r.speaks;
        }

    -- what its plan call puts is the step's plan
    puts_so : (q : Plan) (z : State) → said_in_turn set pass J t w hosts i ≡ Planned.says q z → plan_in r.speaks.answer r.speaks.out' ≡ q
    unfolding said
    puts_so q z e =
        (speaking_said (set i) (keep i) (pass i) (hosts i) (t (suc i)) (w (suc i)) r.table r.waits _ _ _ before.speaker _ r.speaks q z e).read

  -- ---- all messages

  are_units : (n : ℕ) (talk : TalkOfEnds set pass J t w hosts n) (i : ℕ) → i ≤ n → AreUnits set pass J t w hosts i (talk.at i)
  unfolding units_at
  are_units n talk zero h = record { speaker = fresh_holds _ talk.fresh_speaker; hearer = fresh_holds _ talk.fresh_hearer }
  are_units n talk (suc i) h = next i _ _ (talk.made i (omega arith)) (are_units n talk i (omega arith))

  -- what is given of the bytes is what is asked of the tables
  tables_given : GivenEnds pass J t w → EndTables set pass J T W hosts
  tables_given given =
      record {
        joint = given.joint;
        limit = given.limit;
        hashes = joint_hashes J (t 1) (t 0) given.joint given.first given.second;
        nothing_first = given.nothing_first;
        nothing_second = given.nothing_second;
        fits = given.fits;
        setting = λ i n h. (keep i).each n (le_trans h given.limit);
      }

  module _ (n : ℕ) (talk : TalkOfEnds set pass J t w hosts n) (given : GivenEnds pass J t w) where
    states : (i : ℕ) (h : i < n)
        → MessageUnderway set pass J T W hosts i
        → MessageAccepted set pass J T W hosts i
        → TurnStated set pass J t w hosts i (talk.at i) (talk.at (suc i)) (talk.made i h)
    states i h underway accepts =
        let stated = (sessions_are_ends set pass J T W hosts (tables_given given)).stated i underway accepts in
        let so = stated.agrees in
        record { stated = stated; puts = puts_so i _ _ (talk.made i h) (are_units n talk i (omega arith)) so.message so.next so.speaks }

    -- a message that the sessions say and take
    answered : (meet : EndsMeet set pass J T W hosts (lacking J (T 1)) (lacking J (T 0))) (i : ℕ) → i ≤ meet.last → (h : i < n)
        → TurnAnswered set pass J t w hosts i (talk.at i) (talk.at (suc i)) (talk.made i h)
    unfolding said taken
    answered meet i up_to h =
        let r = talk.made i h in
        let before = are_units n talk i (omega arith) in
        let so =
        message_answered (set i) (keep i) (pass i) (hosts i) (t (suc i)) (w (suc i)) r.table r.waits _ _ _ before.speaker _ r.speaks
        (t (suc (suc i))) r.loaded _ _ _ _ before.hearer r.hears _ _ _ (meet.says i up_to).2 (meet.takes i up_to).1
        in
        record { speaks = so.0; hears = so.1 }

    meets : AllMessagesGranted set pass J t w hosts → CallsMeet set pass J t w hosts n talk
    meets all =
        let meet = sessions_meet set pass J T W hosts (tables_given given) all in
        record { meet = meet; all = answered meet }

  -- ---- a talk can be made

  module _ (lends : LendsEnds set pass J t w hosts) where
    module _ (i : ℕ) (s : Memories) (before : AreUnits set pass J t w hosts i s) where
      made : MessageMade (set i) (pass i) (hosts i) (t (suc i)) (lends.tables (suc i)).index (w (suc i)) s.speaker
          (t (suc (suc i))) (lends.tables (suc (suc i))).index (length (T i)) s.hearer
      made =
          message_goes (set i) (keep i) (pass i) (hosts i) (lends.changes i) lends.out lends.wide lends.buffer lends.room
          (t (suc i)) (w (suc i)) (lends.tables (suc i)) (lends.waits (suc i)) _ s.speaker before.speaker
          (t (suc (suc i))) (lends.tables (suc (suc i))) (length (T i)) _ s.hearer before.hearer

      abbrev end : Memories
      end = record { speaker = made.heard; hearer = made.spoken }

      goes : CallsTurn set pass J t w hosts i s end
      goes =
          record {
            table = lends.tables (suc i);
            loaded = lends.tables (suc (suc i));
            waits = lends.waits (suc i);
            message = made.message;
            speaks = made.speaks;
            hears = made.hears;
          }

    module _ (start : Memories) (fresh_speaker : Fresh start.speaker) (fresh_hearer : Fresh start.hearer) where
      standing : (i : ℕ) → (s : Memories) × AreUnits set pass J t w hosts i s
      unfolding units_at
      standing zero = (start, record { speaker = fresh_holds _ fresh_speaker; hearer = fresh_holds _ fresh_hearer })
      standing (suc i) =
          let (s, h) = standing i in
          (end i s h, next i s _ (goes i s h) h)

      talk : (n : ℕ) → TalkOfEnds set pass J t w hosts n
      unfolding standing
      talk n =
          record {
            at = λ i. (standing i).0;
            fresh_speaker = fresh_speaker;
            fresh_hearer = fresh_hearer;
            made = λ i h. goes i (standing i).0 (standing i).1;
          }

pub calls_are_units : CallsAreUnits
calls_are_units = are_units

pub calls_state_ends : CallsStateEnds
calls_state_ends = states

pub calls_meet_ends : CallsMeetEnds
calls_meet_ends = meets

pub calls_go_ends : CallsGoEnds
calls_go_ends = talk
