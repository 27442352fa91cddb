-- A good session stays good under both steps, whatever is planned or received, and a message that was read is one that a session can take.
use Prim.Native.Nat.{ℕ, zero, suc, ◌+◌, ◌≤◌, ◌<◌}
use mathlib.Core.Bool.{Bool, true, false, not, ◌&&◌}
use mathlib.Core.List.{List, [], ◌∷◌}
use mathlib.Core.Option.{Option as Maybe, none, some}
use mathlib.Core.Path.{◌≡◌, refl, sym, ap, ◌∙◌}
use native.Mathlib.Nat.{le_trans}
use native.Mathlib.Omega.{arith}
use borrow.Author.Tests.{leb-true, ltb-true, ltb-false}
use lib.Dec.{leb, ltb}
use lib.ListN.{length, take, length-replicate}
use Rattle.bloom.proofs.HaveLaws.{PassedHaves, passed_haves}
use Rattle.bloom.specs.Filter.{field_size, filter_rules, default_bits, default_probes, SettingGood}
use Rattle.bloom.specs.Have.{have_count, have_in, haves_from, haves_of, sync_place, sync_count, numbers_in, filter_good, filter_with}
use Rattle.message_read.proofs.Messages.{message_words, haves_good_lem}
use Rattle.message_read.specs.MessageRead.{Reading, message_at, message_in}
use Rattle.message_read.specs.declared.parse.Places.{Places}
use Rattle.table_graph.proofs.BelowLaws.{beyond_few}
use Rattle.table_graph.proofs.HeadLaws.{heads_few, heads_hashes}
use Rattle.table_graph.specs.Graph.{heads, beyond}
use Rattle.hash_lists.specs.Lists.{same}
use Rattle.message.specs.Sound.{Each, SoundHashes, SoundHave, FilterReadsBack, HaveReadsBack}
use Rattle.waiting_missing.specs.Missing.{missing}
use Rattle.hash_order.proofs.KeepLaws.{hashes_member, hashes_each, hashes_inside}
use Rattle.hash_order.specs.Order.{member, every, ascends}
use Rattle.bloom_probe.proofs.FieldLaws.{length_add_hashes}
use Rattle.bloom_probe.specs.Build.{add_hashes, filter_of}
use Rattle.rules.proofs.Cases.{split, both, either}
use Rattle.rules.proofs.Hash.{length_hashes_at, hashes_are_hashes, length_slice_of}
use Rattle.rules.specs.Hash.{Bytes, AreHashes, hashes_at}
use Rattle.rules.specs.Sizes.{sizes}
use Rattle.rules.specs.declared.refusal.Refusal.TheVariants.{BadRowsBefore}
use Rattle.rules.specs.declared.refusal.Refusal.{Refusal}
use Rattle.session.specs.Plan.{Body, Plan, Planned, heard, need_of, have_of, haves_for, empty, body_of, sent_after, heads_for, plan_of, planned, plan_body, plan, after}
use Rattle.session.proofs.PlanLaws.{list_few, body_hashes, sent_ascends, sent_members, need_none_read_only, need_missing, have_one, have_none, plan_saying}
use Rattle.session_state.specs.Session.{State, fresh, fresh_read_only, restored, set_read_only}
use Rattle.session_state.proofs.SessionLaws.{switch_same, switch_on, switch_off}
use Rattle.table.specs.Table.{Row, rows, held}
use Rattle.waiting.specs.Waiting.{Waiting}
use Rattle.session.specs.GoodState.{SoundTable, SoundHaves, WhereHeard, GoodState, SoundSaid}
use Rattle.session.specs.Receive.{Said, said_in, Received, sent_flagged, flagged, loads, advance, shared_loaded, join, shared_after, sent_left, last_sent_after, received, receive, receive_bytes}
use Rattle.session.proofs.ReceiveLaws.{join_members, advance_members, shared_taken, shared_joined, flagged_ascends, flagged_few, flagged_inside, left_ascends, left_few, left_inside, receive_taking, failed_leaves, bytes_beyond, bytes_refused, bytes_read}
use Rattle.std.specs.Prelude.{Result, Ok, Option}
use Rattle.message.specs.declared.flags.MessageFlags.{MessageFlags}

-- ---- sessions in which nothing was said

no_hashes : SoundHashes []
unfolding AreHashes
no_hashes = record { few = omega arith; are = tt }

no_haves : SoundHaves []
unfolding Each
no_haves = record { few = omega arith; each = tt }

pub restored_good : (shared : List ℕ) → SoundHashes shared → GoodState (restored shared)
unfolding AreHashes ascends
restored_good shared h =
    record {
      shared = h;
      last_sent = no_hashes;
      their_heads = tt;
      their_need = tt;
      their_have = no_haves;
      sent_few = omega arith;
      sent_are = tt;
      ascending = refl;
    }

pub fresh_good : GoodState fresh
unfolding AreHashes ascends
fresh_good =
    record {
      shared = no_hashes;
      last_sent = no_hashes;
      their_heads = tt;
      their_need = tt;
      their_have = tt;
      sent_few = omega arith;
      sent_are = tt;
      ascending = refl;
    }

-- ---- read-only mode

-- the lists of one session are those of the other
like : (s s' : State) → GoodState s
    → s'.shared_heads ≡ s.shared_heads
    → s'.last_sent_heads ≡ s.last_sent_heads
    → s'.their_heads ≡ s.their_heads
    → s'.their_need ≡ s.their_need
    → s'.their_have ≡ s.their_have
    → s'.sent_hashes ≡ s.sent_hashes
    → GoodState s'
like s s' g a b c d e f =
    record {
      shared = rw a g.shared;
      last_sent = rw b g.last_sent;
      their_heads = rw c g.their_heads;
      their_need = rw d g.their_need;
      their_have = rw e g.their_have;
      sent_few = rw f g.sent_few;
      sent_are = rw f g.sent_are;
      ascending = rw f g.ascending;
    }

pub set_read_only_good : (s : State) (on : Bool) → GoodState s → GoodState (set_read_only s on)
set_read_only_good s true g =
    split s.read_only (λ e. rw (switch_same s true e) g) (λ e. rw (switch_on s e) (like s _ g refl refl refl refl refl refl))
set_read_only_good s false g =
    split s.read_only (λ e. rw (switch_off s e) (like fresh _ fresh_good refl refl refl refl refl refl)) (λ e. rw (switch_same s false e) g)

pub fresh_read_only_good : GoodState fresh_read_only
fresh_read_only_good = like fresh fresh_read_only fresh_good refl refl refl refl refl refl

-- ---- planning

heads_fit : (a rows most : ℕ) → a ≤ rows → rows ≤ sizes.rows → sizes.rows ≤ most → a ≤ most
heads_fit a rows most h k l = omega arith

-- a list may hold the heads of any table
pub heads_sound : (t : List Row) → SoundTable t → SoundHashes (heads t)
heads_sound t w = record { few = heads_fit _ _ _ (heads_few t) w.few (omega arith); are = heads_hashes t w.are }

sent_hashes_lem : (s : State) → GoodState s → (b : Body) → AreHashes b.hashes → AreHashes (sent_after s b)
sent_hashes_lem s g b are =
    hashes_each (sent_after s b)
    (λ h m.
    either (member h b.hashes) (member h s.sent_hashes) (sym (sent_members s b h) ∙ m)
    (λ e. hashes_member b.hashes are h e)
    (λ e. hashes_member s.sent_hashes g.sent_are h e))

-- what holds where something was heard holds of what was
pub where_heard : {A : Type 0} (P : A → Type 0) (o : Maybe A) → WhereHeard P o → (x : A) → o ≡ some x → P x
where_heard P none h x e = absurd (let z : ◌≡◌ {A = ℕ} 0 1 = cc in omega arith)
where_heard P (some y) h x e =
    let is : y ≡ x = cc in
    rw (← is) h

-- no more hashes than may be sent at once
pub body_few : (t : List Row) (s : State) → SoundTable t → GoodState s → length (body_of t s).hashes ≤ sizes.hashes_to_send
body_few t s w g = list_few t s w.few (λ need e. (where_heard SoundHashes s.their_need g.their_need need e).few)

module _ (bits probes : ℕ) (t : List Row) (w : List Waiting) (s : State) (sound : SoundTable t) (g : GoodState s) (b : Body) (c : Result Unit ℕ)
    (are : AreHashes b.hashes) where
  good_after : length (sent_after s b) ≤ sizes.sent_hashes → GoodState (planned t s b)
  unfolding planned
  good_after few =
      record {
        shared = g.shared;
        last_sent = heads_sound t sound;
        their_heads = g.their_heads;
        their_need = g.their_need;
        their_have = g.their_have;
        sent_few = few;
        sent_are = sent_hashes_lem s g b are;
        ascending = sent_ascends s b;
      }

  -- a message leaves a good session
  pub body_good : (q : Plan) (s' : State) → plan_body bits probes t w s b c ≡ Planned.says q s' → GoodState s'
  body_good q s' e =
      let p = plan_saying bits probes t w s b c q s' e in
      rw p.session (good_after p.sent_few)

  answer_good : (x : Planned) → plan_body bits probes t w s b c ≡ x → GoodState (after x s)
  answer_good (Planned.refused r) e = g
  answer_good Planned.silent e = g
  answer_good (Planned.reset p) e = g
  answer_good (Planned.says q s') e = body_good q s' e

  -- and so does planning, whatever it answers
  pub body_leaves_good : GoodState (after (plan_body bits probes t w s b c) s)
  body_leaves_good = answer_good (plan_body bits probes t w s b c) refl

-- so where all goes that the session asks for
module _ (bits probes : ℕ) (t : List Row) (w : List Waiting) (s : State) (sound : SoundTable t) (g : GoodState s) where
  pub planned_good : (q : Plan) (s' : State) → plan bits probes t w s ≡ Planned.says q s' → GoodState s'
  planned_good = body_good bits probes t w s sound g (body_of t s) (Ok tt) (body_hashes t sound.good s sound.are)

  pub after_good : GoodState (after (plan bits probes t w s) s)
  after_good = body_leaves_good bits probes t w s sound g (body_of t s) (Ok tt) (body_hashes t sound.good s sound.are)

-- ---- messages that are planned with bits and probes that keep the filter rules

-- The lists of a plan may stand in a message.
pub record SoundPlan (q : Plan) : Type 0 where
  pub heads : SoundHashes q.heads
  pub need : SoundHashes q.need
  pub haves : SoundHaves q.haves

module _ (bits probes : ℕ) (setting : SettingGood bits probes) (t : List Row) (sound : SoundTable t) where
  have_sound : (l : List ℕ) → SoundHashes l → SoundHave (have_of bits probes t l)
  unfolding have_of filter_of
  have_sound l h =
      let few : length (beyond t l) ≤ sizes.rows = le_trans (beyond_few t l) sound.few in
      record { last_sync = h; filter = rw (length_add_hashes, length-replicate) (setting.each (length (beyond t l)) few) }

  haves_sound : (need their_heads l : List ℕ) → SoundHashes l → SoundHaves (haves_for bits probes t need their_heads l)
  unfolding Each
  haves_sound need their_heads l h =
      split (every (λ x. member x their_heads) need)
      (λ e. rw (have_one bits probes t need their_heads l e) (record { few = omega arith; each = (have_sound l h, tt) }))
      (λ e. rw (have_none bits probes t need their_heads l e) no_haves)

  told_sound : (needs_reset supports_reset : Bool) → SoundHashes (heads_for needs_reset supports_reset (heads t))
  unfolding heads_for
  told_sound needs_reset supports_reset = split (needs_reset && not supports_reset) (λ e. rw e no_hashes) (λ e. rw e (heads_sound t sound))

  need_hashes : (w : List Waiting) (readOnlyUnit : Bool) (l : List ℕ) → AreHashes (missing t w l) → AreHashes (need_of t w readOnlyUnit l)
  unfolding AreHashes
  need_hashes w true l a = rw (need_none_read_only t w l) tt
  need_hashes w false l a = rw (need_missing t w l) a

  -- the lists of a message that is said are sound, if what is missing are hashes
  pub said_sound : (w : List Waiting) (s : State) → GoodState s → AreHashes (missing t w (heard s.their_heads))
      → (b : Body) (c : Result Unit ℕ) (q : Plan) (s' : State) → plan_body bits probes t w s b c ≡ Planned.says q s'
      → SoundPlan q
  unfolding plan_of
  said_sound w s g a b c q s' e =
      let p = plan_saying bits probes t w s b c q s' e in
      rw p.message
      (record {
        heads = told_sound s.needs_reset s.supports_reset;
        need = record { few = p.few; are = need_hashes w s.read_only (heard s.their_heads) a };
        haves = haves_sound _ _ s.shared_heads g.shared;
      })

filter_said : (hs : List ℕ) → FilterReadsBack (filter_of default_bits default_probes hs)
unfolding filter_of field_size add_hashes
filter_said [] = FilterReadsBack.default refl
filter_said (h ∷ hs) = FilterReadsBack.entries (omega arith)

-- and its have is read back as it was written: a filter over no rows is the default
pub said_back : (t : List Row) (w : List Waiting) (s : State) (b : Body) → Each HaveReadsBack (plan_of default_bits default_probes t w s b).haves
unfolding plan_of have_of Each
said_back t w s b =
    let need : List ℕ = need_of t w s.read_only (heard s.their_heads) in
    split (every (λ x. member x (heard s.their_heads)) need)
    (λ e.
    rw (have_one default_bits default_probes t need (heard s.their_heads) s.shared_heads e)
    (filter_said (beyond t s.shared_heads), tt))
    (λ e. rw (have_none default_bits default_probes t need (heard s.their_heads) s.shared_heads e) tt)

-- ---- receiving

module _ (before : ℕ) (t : List Row) (s : State) (m : Said) (are : AreHashes (rows t)) (g : GoodState s) (sound : SoundSaid m) where
  advanced_hashes : AreHashes (advance (heads (take before t)) (heads t) s.shared_heads)
  advanced_hashes =
      let old : List ℕ = heads (take before t) in
      let new : List ℕ = heads t in
      hashes_each (advance old new s.shared_heads)
      (λ h e.
      either (not (member h old) && member h new) (member h new && member h s.shared_heads) (sym (advance_members old new s.shared_heads h) ∙ e)
      (λ f. hashes_member new (heads_hashes t are) h (both (not (member h old)) (member h new) f).1)
      (λ f. hashes_member new (heads_hashes t are) h (both (member h new) (member h s.shared_heads) f).0))

  loaded_hashes : AreHashes (shared_loaded before t s m)
  unfolding shared_loaded
  loaded_hashes = split (loads s m) (λ e. rw e advanced_hashes) (λ e. rw e g.shared.are)

  joined_hashes : AreHashes (join t m.heads (shared_loaded before t s m))
  joined_hashes =
      let l : List ℕ = shared_loaded before t s m in
      hashes_each (join t m.heads l)
      (λ h e.
      either (held t h && member h m.heads) (member h l) (sym (join_members t m.heads l h) ∙ e)
      (λ f. hashes_member m.heads sound.heads.are h (both (held t h) (member h m.heads) f).1)
      (λ f. hashes_member l loaded_hashes h f))

  shared_hashes : AreHashes (shared_after before t s m)
  shared_hashes =
      split (every (held t) m.heads)
      (λ e. rw (shared_taken before t s m e) sound.heads.are)
      (λ e. rw (shared_joined before t s m e) joined_hashes)

  last_sound : SoundHashes (last_sent_after before t s m)
  unfolding last_sent_after
  last_sound =
      split (empty m.heads)
      (λ e. rw e no_hashes)
      (λ e.
      split (not m.chunks && same m.heads (heads (take before t))) (λ f. rw (e, f) sound.heads) (λ f. rw (e, f) g.last_sent))

  taken_good : length (shared_after before t s m) ≤ sizes.hashes → GoodState (received before t s m)
  unfolding received
  taken_good few =
      record {
        shared = record { few = few; are = shared_hashes };
        last_sent = last_sound;
        their_heads = sound.heads;
        their_need = sound.need;
        their_have = sound.haves;
        sent_few = omega (arith, left_few t s m, g.sent_few);
        sent_are = hashes_inside (sent_left t s m) s.sent_hashes g.sent_are (left_inside t s m);
        ascending = left_ascends t s m g.ascending;
      }

  -- a message that is taken leaves a good session
  pub received_good : (loaded : Bool) (s' : State) → receive loaded before t s m ≡ Received.took s' → GoodState s'
  received_good loaded s' e =
      let p = receive_taking loaded before t s m s' e in
      rw p.session (taken_good p.few)

-- what every message does keeps a session good
pub flagged_good : (flags : Option MessageFlags) (s : State) → GoodState s → GoodState (flagged flags s)
unfolding flagged
flagged_good flags s g =
    record {
      shared = g.shared;
      last_sent = g.last_sent;
      their_heads = g.their_heads;
      their_need = g.their_need;
      their_have = g.their_have;
      sent_few = omega (arith, flagged_few flags s.sent_hashes, g.sent_few);
      sent_are = hashes_inside (sent_flagged flags s.sent_hashes) s.sent_hashes g.sent_are (flagged_inside flags s.sent_hashes);
      ascending = flagged_ascends flags s.sent_hashes g.ascending;
    }

-- and so does a failed load
pub failed_good : (loaded : Bool) (before : ℕ) (t : List Row) (s : State) (m : Said) → GoodState s
    → (s' : State) → receive loaded before t s m ≡ Received.failed s' → GoodState s'
failed_good loaded before t s m g s' e = rw (failed_leaves loaded before t s m s' e) (flagged_good m.flags s g)

-- ---- messages that were read

pub sound_hashes : (s : List ℕ) (place count : ℕ) → Bytes s → count ≤ sizes.hashes → SoundHashes (hashes_at s place count)
sound_hashes s place count all few =
    record { few = rw (length_hashes_at s place count) few; are = hashes_are_hashes s place count all }

module _ (s haves : List ℕ) (all : Bytes s) (p : PassedHaves s haves) where
  sound_have : (i : ℕ) → i < have_count haves → SoundHave (have_in s haves i)
  unfolding have_in filter_with filter_good
  sound_have i h =
      let f = numbers_in haves i in
      let t =
      both (filter_rules f.entries f.bits f.probes f.size) (leb (f.place + f.size) (length s)) (p.each i h).filter
      in
      record {
        last_sync = sound_hashes s (sync_place haves i) (sync_count haves i) all (p.syncs i h);
        filter = rw (length_slice_of f.size s f.place (leb-true _ _ t.1)) t.0;
      }

  sound_from : (count i : ℕ) → i + count ≤ have_count haves → (length (haves_from s haves i count) ≡ count) × Each SoundHave (haves_from s haves i count)
  unfolding Each haves_from
  sound_from zero i h = (refl, tt)
  sound_from (suc count) i h =
      let rest = sound_from count (suc i) (omega arith) in
      (ap suc rest.0, (sound_have i (omega arith), rest.1))

  pub sound_haves : SoundHaves (haves_of s haves)
  unfolding haves_of
  sound_haves =
      let w = sound_from (have_count haves) 0 (omega arith) in
      record { few = rw w.0 p.few; each = w.1 }

-- a message that was read is one that a session can take
pub read_sound : (bytes : List ℕ) → Bytes bytes → (p : Places) (haves chunks : List ℕ) → message_at bytes ≡ Reading.read p haves chunks
    → SoundSaid (said_in (message_in bytes p haves chunks))
unfolding said_in message_in
read_sound bytes all p haves chunks e =
    let w = message_words bytes p haves chunks e in
    let good = haves_good_lem bytes all p haves chunks e in
    record {
      heads = sound_hashes bytes p.heads.start p.heads.count all w.few_heads;
      need = sound_hashes bytes p.need.start p.need.count all w.few_need;
      haves = sound_haves bytes haves all (passed_haves bytes haves good.0 good.1);
    }

-- What receiving leaves of a session is good.
pub record LeavesGood (x : Received) : Type 0 where
  pub took : (s' : State) → x ≡ Received.took s' → GoodState s'
  pub failed : (s' : State) → x ≡ Received.failed s' → GoodState s'

module _ (loaded : Bool) (before : ℕ) (t : List Row) (s : State) (bytes : List ℕ) (all : Bytes bytes) (are : AreHashes (rows t)) (g : GoodState s) where
  as_was : (x : Received) (r : Refusal) → x ≡ Received.refused r → LeavesGood x
  as_was x r e =
      record {
        took = λ s' f. absurd (let z : ◌≡◌ {A = ℕ} 0 1 = cc in omega arith);
        failed = λ s' f. absurd (let z : ◌≡◌ {A = ℕ} 0 1 = cc in omega arith);
      }

  read_good : before ≤ length t → (x : Reading) → message_at bytes ≡ x → LeavesGood (receive_bytes loaded before t s bytes)
  read_good inside (Reading.refused r) e = as_was _ r (bytes_refused loaded before t s bytes inside r e)
  read_good inside (Reading.read p haves chunks) e =
      let m : Said = said_in (message_in bytes p haves chunks) in
      rw (bytes_read loaded before t s bytes inside p haves chunks e)
      (record {
        took = received_good before t s m are g (read_sound bytes all p haves chunks e) loaded;
        failed = failed_good loaded before t s m g;
      })

  -- receiving any bytes leaves a good session
  pub bytes_good : LeavesGood (receive_bytes loaded before t s bytes)
  bytes_good =
      split (ltb (length t) before)
      (λ a. as_was _ BadRowsBefore (bytes_beyond loaded before t s bytes (ltb-true _ _ a)))
      (λ a. read_good (ltb-false _ _ a) (message_at bytes) refl)
