-- What receiving does, piece by piece, so that callers open none of its definitions: the shared heads, the hashes sent, what a failed load leaves, and
-- one law for each way through the stages.
use Prim.Native.Nat.{ℕ, ◌≤◌, ◌<◌}
use mathlib.Core.Bool.{Bool, true, false, not, ◌&&◌, ◌||◌}
use mathlib.Core.List.{List, [], ◌++◌}
use mathlib.Core.Path.{◌≡◌, refl, sym, ◌∙◌}
use native.Mathlib.Nat.{le_trans}
use native.Mathlib.Omega.{arith}
use borrow.Author.Tests.{ltb-true, ltb-false, lt-ltb, le-ltb}
use lib.Dec.{ltb}
use lib.ListN.{length}
use Rattle.message_read.specs.MessageRead.{Reading, message_at, message_in}
use Rattle.message_read.specs.declared.parse.Places.{Places}
use Rattle.table_graph.specs.Graph.{below}
use Rattle.message.specs.Flags.{sync_reset, has_flag}
use Rattle.hash_order.proofs.KeepLaws.{keep_member, keep_most, keep_ascends, once_ascends}
use Rattle.hash_order.proofs.OrderLaws.{ascend_ascends, ascend_members, ascending_unique, member_append, member_none}
use Rattle.hash_order.specs.Order.{member, keep, every, ascends, Once}
use Rattle.rules.proofs.Cases.{split, both}
use Rattle.rules.specs.Sizes.{sizes}
use Rattle.rules.specs.declared.refusal.Refusal.TheVariants.{PastSize, BadRowsBefore}
use Rattle.rules.specs.declared.refusal.Refusal.{Refusal}
use Rattle.session.specs.Plan.{empty}
use Rattle.session.specs.ReceiveCall.{received_lists}
use Rattle.session_state.specs.Session.{State}
use Rattle.session_state.specs.Value.{Lent}
use Rattle.table.specs.Table.{Row, held}
use Rattle.session.specs.Receive.{Said, said_in, Received, left, flag_taken, sent_flagged, flagged, loads, advance, shared_loaded, join, shared_after, sent_left, received, receive, receive_read, receive_bytes}
use Rattle.std.specs.Prelude.{Option}
use Rattle.message.specs.declared.flags.MessageFlags.{MessageFlags}

-- ---- the shared heads

or_among : (a b : Bool) → (a ≡ true → b ≡ true) → (a || b) ≡ b
or_among a b f = split a (λ e. rw (e, f e)) (λ e. rw e)

module _ (t : List Row) (their_heads shared : List ℕ) where
  pub join_ascends : ascends (join t their_heads shared) ≡ true
  unfolding join
  join_ascends = ascend_ascends _

  pub join_once : Once (join t their_heads shared)
  join_once = once_ascends (join t their_heads shared) join_ascends

  -- the message's heads that are held and the shared ones, and no others
  pub join_members : (h : ℕ) → member h (join t their_heads shared) ≡ ((held t h && member h their_heads) || member h shared)
  unfolding join
  join_members h =
      ascend_members h (keep (held t) their_heads ++ shared)
      ∙ rw (member_append h (keep (held t) their_heads) shared, keep_member (held t) their_heads h)

  -- What joined heads are: ascending, each hash once, and the members of both, all of them and no others.
  pub record JoinedHeads (l : List ℕ) : Type 0 where
    pub ascending : ascends l ≡ true
    pub once : Once l
    pub members : (h : ℕ) → member h l ≡ ((held t h && member h their_heads) || member h shared)

  pub joined_heads : JoinedHeads (join t their_heads shared)
  joined_heads = record { ascending = join_ascends; once = join_once; members = join_members }

  -- no other list is that
  pub joined_one : (l : List ℕ) → JoinedHeads l → l ≡ join t their_heads shared
  joined_one l j = ascending_unique l (join t their_heads shared) j.ascending join_ascends (λ h. j.members h ∙ sym (join_members h))

  -- heads that were shared already add nothing: however many are heard again, the list is no longer for them
  pub join_again : ascends shared ≡ true → ((h : ℕ) → (held t h && member h their_heads) ≡ true → member h shared ≡ true)
      → join t their_heads shared ≡ shared
  join_again a among =
      sym
      (joined_one shared
      (record {
        ascending = a;
        once = once_ascends shared a;
        members = λ h. sym (or_among (held t h && member h their_heads) (member h shared) (among h));
      }))

module _ (headsBefore headsNow shared : List ℕ) where
  pub advance_ascends : ascends (advance headsBefore headsNow shared) ≡ true
  unfolding advance
  advance_ascends = ascend_ascends _

  -- heads that are new, and shared ones that are heads still
  pub advance_members : (h : ℕ)
      → member h (advance headsBefore headsNow shared) ≡ ((not (member h headsBefore) && member h headsNow) || (member h headsNow && member h shared))
  unfolding advance
  advance_members h =
      let new : List ℕ = keep (λ x. not (member x headsBefore)) headsNow in
      let still : List ℕ = keep (λ x. member x headsNow) shared in
      ascend_members h (new ++ still)
      ∙ rw (member_append h new still, keep_member (λ x. not (member x headsBefore)) headsNow h, keep_member (λ x. member x headsNow) shared h)

module _ (before : ℕ) (t : List Row) (s : State) (m : Said) where
  -- heads that are all held are the shared ones from then on, as they stand
  pub shared_taken : every (held t) m.heads ≡ true → shared_after before t s m ≡ m.heads
  unfolding shared_after
  shared_taken e = rw e

  pub shared_joined : every (held t) m.heads ≡ false → shared_after before t s m ≡ join t m.heads (shared_loaded before t s m)
  unfolding shared_after
  shared_joined e = rw e

  -- so they are no more than a message may name
  pub shared_few_lem : every (held t) m.heads ≡ true → length m.heads ≤ sizes.hashes → length (shared_after before t s m) ≤ sizes.hashes
  shared_few_lem e h = rw (shared_taken e) h

-- ---- the hashes sent

pub flagged_ascends : (flags : Option MessageFlags) (sent : List ℕ) → ascends sent ≡ true → ascends (sent_flagged flags sent) ≡ true
unfolding sent_flagged ascends
flagged_ascends flags sent a = split (flag_taken (λ f. has_flag f sync_reset) flags false) (λ e. rw e) (λ e. rw e a)

pub flagged_few : (flags : Option MessageFlags) (sent : List ℕ) → length (sent_flagged flags sent) ≤ length sent
unfolding sent_flagged
flagged_few flags sent = split (flag_taken (λ f. has_flag f sync_reset) flags false) (λ e. rw e (omega arith)) (λ e. rw e (omega arith))

-- a reset makes them forgotten, and nothing is added
pub flagged_inside : (flags : Option MessageFlags) (sent : List ℕ) (h : ℕ) → member h (sent_flagged flags sent) ≡ true → member h sent ≡ true
unfolding sent_flagged
flagged_inside flags sent h = split (flag_taken (λ f. has_flag f sync_reset) flags false) (λ e. rw e (λ m. absurd (member_none h m))) (λ e. rw e (λ m. m))

module _ (t : List Row) (s : State) (m : Said) where
  pub left_ascends : ascends s.sent_hashes ≡ true → ascends (sent_left t s m) ≡ true
  unfolding sent_left ascends
  left_ascends a =
      split (empty m.heads)
      (λ e. rw e)
      (λ e. rw e (keep_ascends _ _ (flagged_ascends m.flags s.sent_hashes a)))

  -- no more than there were
  pub left_few : length (sent_left t s m) ≤ length s.sent_hashes
  unfolding sent_left
  left_few =
      split (empty m.heads)
      (λ e. rw e (omega arith))
      (λ e. rw e (le_trans (keep_most _ (sent_flagged m.flags s.sent_hashes)) (flagged_few m.flags s.sent_hashes)))

  -- just those that the peer doesn't have by now, and none for a peer without heads
  pub left_members : (h : ℕ)
      → member h (sent_left t s m) ≡ (not (empty m.heads) && (not (below t m.heads h) && member h (sent_flagged m.flags s.sent_hashes)))
  unfolding sent_left member
  left_members h =
      split (empty m.heads) (λ e. rw e) (λ e. rw e (keep_member (λ x. not (below t m.heads x)) (sent_flagged m.flags s.sent_hashes) h))

  -- a hash that is left was there
  pub left_inside : (h : ℕ) → member h (sent_left t s m) ≡ true → member h s.sent_hashes ≡ true
  left_inside h l =
      let a = both (not (empty m.heads)) _ (sym (left_members h) ∙ l) in
      let b = both (not (below t m.heads h)) (member h (sent_flagged m.flags s.sent_hashes)) a.1 in
      flagged_inside m.flags s.sent_hashes h b.1

-- ---- what every message does

-- Two sessions that differ in what a message does even if its changes don't load, and in nothing else: the hashes sent, what is in flight, and what
-- its flags say of the peer.
pub record FlagsApart (s s' : State) : Type 0 where
  pub shared_heads : s'.shared_heads ≡ s.shared_heads
  pub last_sent_heads : s'.last_sent_heads ≡ s.last_sent_heads
  pub their_heads : s'.their_heads ≡ s.their_heads
  pub their_need : s'.their_need ≡ s.their_need
  pub their_have : s'.their_have ≡ s.their_have
  pub have_responded : s'.have_responded ≡ s.have_responded
  pub read_only : s'.read_only ≡ s.read_only
  pub needs_reset : s'.needs_reset ≡ s.needs_reset

module _ (flags : Option MessageFlags) (s : State) where
  pub flagged_keeps : FlagsApart s (flagged flags s)
  unfolding flagged
  flagged_keeps =
      record {
        shared_heads = refl;
        last_sent_heads = refl;
        their_heads = refl;
        their_need = refl;
        their_have = refl;
        have_responded = refl;
        read_only = refl;
        needs_reset = refl;
      }

  -- nothing is in flight after it
  pub flagged_lands : (flagged flags s).in_flight ≡ false
  unfolding flagged
  flagged_lands = refl

  -- the hashes sent stay, unless it is a reset
  pub flagged_sent : flag_taken (λ f. has_flag f sync_reset) flags false ≡ false → (flagged flags s).sent_hashes ≡ s.sent_hashes
  unfolding flagged sent_flagged
  flagged_sent e = rw e

  pub flagged_forgets : flag_taken (λ f. has_flag f sync_reset) flags false ≡ true → (flagged flags s).sent_hashes ≡ []
  unfolding flagged sent_flagged
  flagged_forgets e = rw e

-- ---- the stages

-- a session that was taken is neither what a failed load leaves nor a refusal, and these two aren't each other
refused_untaken : {A : Type 0} {r : Refusal} {s : State} → Received.refused r ≡ Received.took s → A
refused_untaken e = absurd (let z : ◌≡◌ {A = ℕ} 0 1 = cc in omega arith)

failed_untaken : {A : Type 0} {s s' : State} → Received.failed s ≡ Received.took s' → A
failed_untaken e = absurd (let z : ◌≡◌ {A = ℕ} 0 1 = cc in omega arith)

refused_loaded : {A : Type 0} {r : Refusal} {s : State} → Received.refused r ≡ Received.failed s → A
refused_loaded e = absurd (let z : ◌≡◌ {A = ℕ} 0 1 = cc in omega arith)

took_loaded : {A : Type 0} {s s' : State} → Received.took s ≡ Received.failed s' → A
took_loaded e = absurd (let z : ◌≡◌ {A = ℕ} 0 1 = cc in omega arith)

module _ (loaded : Bool) (before : ℕ) (t : List Row) (s : State) (m : Said) where
  pub receive_failed : (loads s m && not loaded) ≡ true → receive loaded before t s m ≡ Received.failed (flagged m.flags s)
  unfolding receive
  receive_failed e = rw e

  module _ (fine : (loads s m && not loaded) ≡ false) where
    pub receive_past : sizes.hashes < length (shared_after before t s m) → receive loaded before t s m ≡ Received.refused (PastSize 0)
    unfolding receive
    receive_past h = rw (fine, lt-ltb _ _ h)

    pub receive_is : length (shared_after before t s m) ≤ sizes.hashes → receive loaded before t s m ≡ Received.took (received before t s m)
    unfolding receive
    receive_is h = rw (fine, le-ltb _ _ h)

  -- What stands where a message is taken.
  pub record Taking (s' : State) : Type 0 where
    pub fine : (loads s m && not loaded) ≡ false
    pub few : length (shared_after before t s m) ≤ sizes.hashes
    pub session : s' ≡ received before t s m

  pub receive_taking : (s' : State) → receive loaded before t s m ≡ Received.took s' → Taking s'
  receive_taking s' e =
      split (loads s m && not loaded)
      (λ a. failed_untaken (sym (receive_failed a) ∙ e))
      (λ a.
      split (ltb sizes.hashes (length (shared_after before t s m)))
      (λ b. refused_untaken (sym (receive_past a (ltb-true _ _ b)) ∙ e))
      (λ b.
      let few : length (shared_after before t s m) ≤ sizes.hashes = ltb-false _ _ b in
      let is : Received.took s' ≡ Received.took (received before t s m) = sym e ∙ receive_is a few in
      record { fine = a; few = few; session = cc }))

  -- the session after a message that was taken is this
  pub receive_took : (s' : State) → receive loaded before t s m ≡ Received.took s' → s' ≡ received before t s m
  receive_took s' e = (receive_taking s' e).session

  -- a failed load leaves what every message does
  pub failed_leaves : (s' : State) → receive loaded before t s m ≡ Received.failed s' → s' ≡ flagged m.flags s
  failed_leaves s' e =
      split (loads s m && not loaded)
      (λ a. let is : Received.failed s' ≡ Received.failed (flagged m.flags s) = sym e ∙ receive_failed a in cc)
      (λ a.
      split (ltb sizes.hashes (length (shared_after before t s m)))
      (λ b. refused_loaded (sym (receive_past a (ltb-true _ _ b)) ∙ e))
      (λ b. took_loaded (sym (receive_is a (ltb-false _ _ b)) ∙ e)))

-- changes that are there for this unit and don't load
pub load_failed : (before : ℕ) (t : List Row) (s : State) (m : Said) → loads s m ≡ true
    → receive false before t s m ≡ Received.failed (flagged m.flags s)
load_failed before t s m e = receive_failed false before t s m (rw e)

-- ---- the same of bytes

module _ (loaded : Bool) (before : ℕ) (t : List Row) (s : State) (bytes : List ℕ) where
  pub bytes_beyond : length t < before → receive_bytes loaded before t s bytes ≡ Received.refused BadRowsBefore
  unfolding receive_bytes
  bytes_beyond h = rw (lt-ltb _ _ h)

  module _ (inside : before ≤ length t) where
    pub bytes_refused : (r : Refusal) → message_at bytes ≡ Reading.refused r → receive_bytes loaded before t s bytes ≡ Received.refused r
    unfolding receive_bytes receive_read
    bytes_refused r e = rw (le-ltb _ _ inside, e)

    pub bytes_read : (p : Places) (haves chunks : List ℕ) → message_at bytes ≡ Reading.read p haves chunks
        → receive_bytes loaded before t s bytes ≡ receive loaded before t s (said_in (message_in bytes p haves chunks))
    unfolding receive_bytes receive_read
    bytes_read p haves chunks e = rw (le-ltb _ _ inside, e)

-- ---- what a refusal leaves

-- every refusal but 8 leaves the session and its lists as they were
pub refused_leaves : (r : Refusal) (s : State) (l : Lent) → (left (Received.refused r) s ≡ s) × (received_lists (Received.refused r) l ≡ l)
unfolding received_lists
refused_leaves r s l = (refl, refl)

-- and 8 the lists
pub failed_lists : (s : State) (l : Lent) → received_lists (Received.failed s) l ≡ l
unfolding received_lists
failed_lists s l = refl
