-- What calls leave: after any call the lists hold the session that the step gives, and it is good there, so that calls can follow each other for ever.
use Prim.Native.Nat.{ℕ, ◌*◌, ◌≤◌}
use mathlib.Core.Bool.{Bool, true, false}
use mathlib.Core.List.{List}
use mathlib.Core.Path.{◌≡◌, refl}
use native.Mathlib.Omega.{arith}
use borrow.Author.Tests.{ltb-true, ltb-false}
use lib.Dec.{ltb}
use lib.ListN.{length}
use Rattle.message_read.specs.MessageRead.{Reading, message_at, message_in}
use Rattle.session.specs.GoodState.{SoundTable, GoodState}
use Rattle.session.specs.Receive.{Said, said_in, Received, flag_taken, sent_flagged, flagged, received, receive, receive_bytes}
use Rattle.session.proofs.GoodLaws.{body_good, LeavesGood, bytes_good}
use Rattle.session.proofs.ReceiveLaws.{left_few, receive_taking, failed_leaves, bytes_beyond, bytes_refused, bytes_read}
use Rattle.session_check.specs.SessionGood.{session_good}
use Rattle.session_check.proofs.GoodSessions.{session_parts, LentBytes}
use Rattle.message.specs.Flags.{sync_reset, has_flag}
use Rattle.rules.specs.Hash.{Bytes, AreHashes}
use Rattle.rules.specs.Sizes.{sizes}
use Rattle.rules.specs.declared.refusal.Refusal.{Refusal}
use Rattle.rules.specs.declared.refusal.Refusal.TheVariants.{BadRowsBefore}
use Rattle.rules.proofs.Cases.{split}
use Rattle.rules.proofs.Hash.{length_hashes_at}
use Rattle.session.specs.Plan.{Body, Plan, Planned, body_of, planned, plan_body, plan}
use Rattle.session.proofs.PlanLaws.{body_hashes, plan_saying}
use Rattle.session_state.specs.Session.{State}
use Rattle.session_state.specs.Value.{Lent, state_of}
use Rattle.session_state.specs.declared.session.Session.{Session}
use Rattle.table.specs.Table.{Row, rows}
use Rattle.waiting.specs.Waiting.{Waiting}
use Rattle.session.specs.Kept.{Stand, Kept, Stays, PlannedRoom, planned_in, ReceivedRoom, received_in}
use Rattle.session.proofs.KeptSessions.{kept_value, kept_good, good_kept, good_state}
use Rattle.session.proofs.Stands.{stand_none, stand_sets, heard_sets, haves_sets}
use Rattle.std.specs.Prelude.{Result, Ok, Option}
use Rattle.message.specs.declared.flags.MessageFlags.{MessageFlags}

stays : (s : State) (l : Lent) → GoodState s → Kept s l → Stays s l
stays s l g k = record { good = kept_good s l g k; value = kept_value s l k }

-- ---- planning

module _ (bits probes : ℕ) (t : List Row) (w : List Waiting) (sound : SoundTable t) where
  -- a message that is planned changes two lists
  pub body_kept : (s : State) (l : Lent) → GoodState s → Kept s l → (b : Body) (c : Result Unit ℕ) → AreHashes b.hashes
      → (q : Plan) (s' : State) → plan_body bits probes t w s b c ≡ Planned.says q s' → PlannedRoom s' l → Kept s' (planned_in s' l)
  unfolding planned
  body_kept s l g k b c are q s' e room =
      let is : s' ≡ planned t s b = (plan_saying bits probes t w s b c q s' e).session in
      let good : GoodState s' = body_good bits probes t w s sound g b c are q s' e in
      record {
        shared = rw is k.shared;
        last_sent = stand_sets s'.last_sent_heads l.last_sent good.last_sent.are room.last_sent;
        their_heads = rw is k.their_heads;
        their_need = rw is k.their_need;
        their_have = rw is k.their_have;
        sent = stand_sets s'.sent_hashes l.sent good.sent_are room.sent;
      }

  -- so the session after it is good, and the one that was planned; any other answer leaves counts and lists as they were
  pub body_stays_good : (n : Session) (l : Lent) → session_good n l ≡ true → LentBytes l → (b : Body) (c : Result Unit ℕ) → AreHashes b.hashes
      → (q : Plan) (s' : State) → plan_body bits probes t w (state_of n l) b c ≡ Planned.says q s' → PlannedRoom s' l → Stays s' (planned_in s' l)
  body_stays_good n l good all b c are q s' e room =
      let s : State = state_of n l in
      let g : GoodState s = good_state n l good all in
      stays s' (planned_in s' l) (body_good bits probes t w s sound g b c are q s' e) (body_kept s l g (good_kept n l good) b c are q s' e room)

  -- so where all goes that the session asks for
  pub plan_stays_good : (n : Session) (l : Lent) → session_good n l ≡ true → LentBytes l
      → (q : Plan) (s' : State) → plan bits probes t w (state_of n l) ≡ Planned.says q s' → PlannedRoom s' l → Stays s' (planned_in s' l)
  plan_stays_good n l good all =
      body_stays_good n l good all (body_of t (state_of n l)) (Ok tt) (body_hashes t sound.good (state_of n l) sound.are)

-- ---- receiving

-- a message that is taken changes every list
pub received_kept : (s : State) (l : Lent) → GoodState s → ReceivedRoom s l → sizes.hash * length s.sent_hashes ≤ length l.sent
    → Kept s (received_in s l)
received_kept s l g room fits =
    record {
      shared = stand_sets s.shared_heads l.shared g.shared.are room.shared;
      last_sent = stand_sets s.last_sent_heads l.last_sent g.last_sent.are room.last_sent;
      their_heads = heard_sets s.their_heads l.their_heads g.their_heads room.their_heads;
      their_need = heard_sets s.their_need l.their_need g.their_need room.their_need;
      their_have = haves_sets l.haves l.bytes s.their_have g.their_have room.haves room.bytes;
      sent = stand_sets s.sent_hashes l.sent g.sent_are fits;
    }

sent_flagged_lem : (flags : Option MessageFlags) (sent buffer : List ℕ) → Stand sent buffer → Stand (sent_flagged flags sent) buffer
unfolding sent_flagged
sent_flagged_lem flags sent buffer k = split (flag_taken (λ f. has_flag f sync_reset) flags false) (λ e. rw e (stand_none buffer)) (λ e. rw e k)

-- what every message does changes counts alone
pub flagged_kept : (flags : Option MessageFlags) (s : State) (l : Lent) → Kept s l → Kept (flagged flags s) l
unfolding flagged
flagged_kept flags s l k =
    record {
      shared = k.shared;
      last_sent = k.last_sent;
      their_heads = k.their_heads;
      their_need = k.their_need;
      their_have = k.their_have;
      sent = sent_flagged_lem flags s.sent_hashes l.sent k.sent;
    }

-- What receiving leaves: fewer hashes sent after a message that is taken, and lists that hold the session after a failed load.
record LeavesKept (s : State) (l : Lent) (x : Received) : Type 0 where
  took : (s' : State) → x ≡ Received.took s' → length s'.sent_hashes ≤ length s.sent_hashes
  failed : (s' : State) → x ≡ Received.failed s' → Kept s' l

module _ (loaded : Bool) (before : ℕ) (t : List Row) (s : State) (l : Lent) (k : Kept s l) where
  message_leaves : (m : Said) → LeavesKept s l (receive loaded before t s m)
  unfolding received
  message_leaves m =
      record {
        took = λ s' e. let is : s' ≡ received before t s m = (receive_taking loaded before t s m s' e).session in rw is (left_few t s m);
        failed = λ s' e. rw (failed_leaves loaded before t s m s' e) (flagged_kept m.flags s l k);
      }

  as_was : (x : Received) (r : Refusal) → x ≡ Received.refused r → LeavesKept s l x
  as_was x r e =
      record {
        took = λ s' f. absurd (let z : ◌≡◌ {A = ℕ} 0 1 = cc in omega arith);
        failed = λ s' f. absurd (let z : ◌≡◌ {A = ℕ} 0 1 = cc in omega arith);
      }

  read_leaves : (bytes : List ℕ) → before ≤ length t → (x : Reading) → message_at bytes ≡ x → LeavesKept s l (receive_bytes loaded before t s bytes)
  read_leaves bytes inside (Reading.refused r) e = as_was _ r (bytes_refused loaded before t s bytes inside r e)
  read_leaves bytes inside (Reading.read p haves chunks) e =
      rw (bytes_read loaded before t s bytes inside p haves chunks e) (message_leaves (said_in (message_in bytes p haves chunks)))

  bytes_leave : (bytes : List ℕ) → LeavesKept s l (receive_bytes loaded before t s bytes)
  bytes_leave bytes =
      split (ltb (length t) before)
      (λ a. as_was _ BadRowsBefore (bytes_beyond loaded before t s bytes (ltb-true _ _ a)))
      (λ a. read_leaves bytes (ltb-false _ _ a) (message_at bytes) refl)

module _ (loaded : Bool) (before : ℕ) (t : List Row) (are : AreHashes (rows t)) (bytes : List ℕ) (all : Bytes bytes) where
  module _ (c : Session) (l : Lent) (good : session_good c l ≡ true) (lent : LentBytes l) where
    leaves_good : LeavesGood (receive_bytes loaded before t (state_of c l) bytes)
    leaves_good = bytes_good loaded before t (state_of c l) bytes all are (good_state c l good lent)

    leaves_kept : LeavesKept (state_of c l) l (receive_bytes loaded before t (state_of c l) bytes)
    leaves_kept = bytes_leave loaded before t (state_of c l) l (good_kept c l good) bytes

    -- the hashes sent have room where those of before had
    pub sent_fits : (s' : State) → receive_bytes loaded before t (state_of c l) bytes ≡ Received.took s'
        → sizes.hash * length s'.sent_hashes ≤ length l.sent
    sent_fits s' e =
        let fewer : length s'.sent_hashes ≤ c.sent_hashes =
        rw (length_hashes_at l.sent 0 c.sent_hashes) at (leaves_kept.took s' e)
        in
        omega (arith, (session_parts c l good).sent.there)

    -- the session after a message that is taken is good, and the one that receiving gives
    pub receive_stays_good : (s' : State) → receive_bytes loaded before t (state_of c l) bytes ≡ Received.took s' → ReceivedRoom s' l
        → Stays s' (received_in s' l)
    receive_stays_good s' e room =
        let g : GoodState s' = leaves_good.took s' e in
        stays s' (received_in s' l) g (received_kept s' l g room (sent_fits s' e))

    -- and after a failed load over the same lists; any other refusal leaves all as it was
    pub failed_stays_good : (s' : State) → receive_bytes loaded before t (state_of c l) bytes ≡ Received.failed s' → Stays s' l
    failed_stays_good s' e = stays s' l (leaves_good.failed s' e) (leaves_kept.failed s' e)
