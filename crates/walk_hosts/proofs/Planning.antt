-- A plan call is the step: over memory that holds a session, with room, it answers what the step plans, leaves the session that the step leaves, and in the
-- buffers the message that the step states. Assumes nothing.
use Prim.Native.Nat.{ℕ, ◌≤◌, ◌<◌}
use mathlib.Core.Bool.{true, ◌&&◌}
use mathlib.Core.List.{List, []}
use mathlib.Core.Option.{Option, none, some}
use mathlib.Core.Path.{◌≡◌, refl, sym, ap, ◌∙◌}
use native.Mathlib.Omega.{arith}
use borrow.Author.Tests.{ltb-true, ltb-false}
use lib.Dec.{ltb}
use lib.ListN.{length}
use lib.Seq.{sets, length-sets}
use Rattle.bloom.specs.Filter.{default_bits, default_probes, SettingGood}
use Rattle.bloom.specs.declared.setting.Setting.{Setting}
use Rattle.bloom.proofs.Rules.{rules_none}
use Rattle.session.specs.PlanCall.{Buffers, after_tables, plan_with, planned_answer, planned_roomed, planned_rooms, message_put, put_into, planned_lists}
use Rattle.table_index.proofs.CheckLaws.{checked_table}
use Rattle.session.specs.Kept.{planned_in}
use Rattle.session.proofs.KeptCalls.{body_stays_good}
use Rattle.session.proofs.KeptSessions.{good_state}
use Rattle.session_check.specs.SessionGood.{session_good}
use Rattle.session_check.proofs.GoodSessions.{LentBytes}
use Rattle.message.specs.Sound.{Each, SoundHashes}
use Rattle.waiting_missing.proofs.AcceptedLaws.{missing_hashes}
use Rattle.rules.specs.Hash.{AreHashes, hashes_bytes}
use Rattle.rules.specs.Sizes.{sizes}
use Rattle.rules.specs.declared.refusal.Refusal.{Refusal}
use Rattle.rules.proofs.Cases.{split}
use Rattle.session.specs.GoodState.{SoundTable, WhereHeard, GoodState}
use Rattle.session.specs.Laid.{laid_bytes}
use Rattle.session.specs.Plan.{Body, Plan, Planned, heard, need_of, unknown_sync, empty, silence, sent_after, plan_of, reset_of, is_fine, unless_broken, plan_body, after}
use Rattle.session.proofs.GoodLaws.{heads_sound, body_good, said_sound}
use Rattle.session.proofs.PlanLaws.{have_or_none, said_flags, plan_need_past, plan_resets, plan_silent, plan_sent_past, plan_ends, plan_saying}
use Rattle.plan_calls.specs.PlanWords.{planned_words, planned_session}
use Rattle.call_words.specs.SessionWords.{session_words, session_of}
use Rattle.call_words.proofs.WordLaws.{words_back}
use Rattle.session_state.specs.Session.{State}
use Rattle.session_state.specs.Value.{Lent, state_of, counts_of}
use Rattle.session_state.specs.declared.session.Session.{Session}
use Rattle.table.specs.TableBytes.{table_of}
use Rattle.table.specs.Table.{Row, rows, held}
use Rattle.table.proofs.GoodLaws.{rows_hashes}
use Rattle.table.proofs.TableLaws.{table_good}
use Rattle.waiting.specs.WaitingBytes.{waiting_of}
use Rattle.table.specs.TableCalls.{passed_on}
use Rattle.waiting.specs.WaitingCalls.{tables_checked}
use Rattle.waiting.specs.Waiting.{Waiting}
use Rattle.hash_order.proofs.KeepLaws.{every_member, hashes_inside}
use Rattle.walk_sessions.proofs.Answers.{MayGo}
use Rattle.walk_sessions.proofs.Passing.{body_passed, check_passed, passing_is, fine_accepted, may_go}
use Rattle.walk_sessions.specs.Passing.{Passes, plan_passing}
use Rattle.walk_hosts.specs.Calls.{plan_made, PlanMade}
use Rattle.walk_hosts.specs.Memory.{Memory, Roomy, OfBytes, Holds, RoomyOut, Tabled, Beside}
use Rattle.walk_hosts.proofs.Rooms.{Fine, planned_room, reset_roomed, says_roomed}
use Rattle.std.specs.Prelude.{Result, Ok, Err}

-- ---- tables and memory as the laws below want them

pub table_sound : (s : List ℕ) → Tabled s → SoundTable (table_of s)
table_sound s t =
    let d = table_good s t.rows (checked_table s t.index t.rows t.good) in
    record { good = d.good; are = rw d.is (rows_hashes s 0 t.rows t.bytes); few = rw d.long d.few }

pub of_bytes : (l : Lent) → OfBytes l → LentBytes l
of_bytes l b =
    record {
      shared = b.shared;
      last_sent = b.last_sent;
      their_heads = b.their_heads;
      their_need = b.their_need;
      bytes = b.bytes;
      sent = b.sent;
    }

pub held_good : (x : State) (m : Memory) → Holds x m → GoodState x
held_good x m h = rw h.stays.value at (good_state (counts_of x) m.lists h.stays.good (of_bytes m.lists h.bytes))

still_roomy : (s : State) (l : Lent) → Roomy l → Roomy (planned_in s l)
still_roomy s l r =
    record {
      shared = r.shared;
      last_sent = rw (length-sets l.last_sent 0 (hashes_bytes s.last_sent_heads)) r.last_sent;
      their_heads = r.their_heads;
      their_need = r.their_need;
      haves = r.haves;
      bytes = r.bytes;
      sent = rw (length-sets l.sent 0 (hashes_bytes s.sent_hashes)) r.sent;
    }

-- What is said stands at the start of the buffers.
pub record PlanPut (q : Plan) (o o' : Buffers) : Type 0 where
  pub heads : o'.heads ≡ sets o.heads 0 (hashes_bytes q.heads)
  pub need : o'.need ≡ sets o.need 0 (hashes_bytes q.need)
  pub have : o'.have ≡ sets o.have 0 (laid_bytes q.haves)
  pub list : o'.list ≡ sets o.list 0 (hashes_bytes q.body.hashes)

-- ---- what is stated is fine

no_hashes : SoundHashes []
unfolding AreHashes
no_hashes = record { few = omega arith; are = tt }

module _ (table waiting : List ℕ) (tabled : Tabled table) (beside : Beside (table_of table) waiting) where
  abbrev t : List Row
  t = table_of table

  abbrev w : List Waiting
  w = waiting_of waiting

  sound : SoundTable t
  sound = table_sound table tabled

  pub reset_fine : Fine (reset_of t)
  unfolding reset_of AreHashes Each
  reset_fine =
      record {
        heads = heads_sound t sound;
        need = no_hashes;
        haves = record { few = omega arith; each = (record { last_sync = no_hashes; filter = rules_none default_bits default_probes (omega arith) (omega arith) }, tt) };
        one = omega arith;
        few = omega arith;
        are = tt;
        flags = omega arith;
      }

  module _ (setting : Setting) (keeps : SettingGood setting.bits setting.probes) (pass : Passes) (x : State) (good : GoodState x) where
    -- what goes, and what the check says of it
    abbrev body : Body
    body = body_passed t x pass

    abbrev check : Result Unit ℕ
    check = check_passed t x pass

    over : {p : Planned} → plan_passing pass setting.bits setting.probes t w x ≡ p → plan_body setting.bits setting.probes t w x body check ≡ p
    over e = sym (passing_is pass setting.bits setting.probes t w x) ∙ e

    -- a reset is the one of this table
    pub reset_is : (q : Plan) → plan_passing pass setting.bits setting.probes t w x ≡ Planned.reset q → q ≡ reset_of t
    reset_is q e =
        split (ltb sizes.hashes (length (need_of t w x.read_only (heard x.their_heads))))
        (λ a. refused_other (sym (plan_need_past setting.bits setting.probes t w x body check (ltb-true _ _ a)) ∙ over e))
        (λ a.
        let few : length (need_of t w x.read_only (heard x.their_heads)) ≤ sizes.hashes = ltb-false _ _ a in
        split (unknown_sync t x.their_have)
        (λ b. let is : Planned.reset q ≡ Planned.reset (reset_of t) = sym (over e) ∙ plan_resets setting.bits setting.probes t w x body check few b in cc)
        (λ b.
        split (silence t x (is_fine check && empty body.hashes))
        (λ c. silent_other (sym (plan_silent setting.bits setting.probes t w x body check few b c) ∙ over e))
        (λ c.
        split (ltb sizes.sent_hashes (length (sent_after x body)))
        (λ d. refused_other (sym (plan_sent_past setting.bits setting.probes t w x body check few b c (ltb-true _ _ d)) ∙ over e))
        (λ d. ended check _ _ (sym (plan_ends setting.bits setting.probes t w x body check few b c (ltb-false _ _ d)) ∙ over e)))))
      where
        refused_other : {A : Type 0} {r : Refusal} {p : Plan} → Planned.refused r ≡ Planned.reset p → A
        refused_other f = absurd (let z : ◌≡◌ {A = ℕ} 0 1 = cc in omega arith)

        silent_other : {A : Type 0} {p : Plan} → Planned.silent ≡ Planned.reset p → A
        silent_other f = absurd (let z : ◌≡◌ {A = ℕ} 0 1 = cc in omega arith)

        says_other : {A : Type 0} {p q : Plan} {s : State} → Planned.says p s ≡ Planned.reset q → A
        says_other f = absurd (let z : ◌≡◌ {A = ℕ} 0 1 = cc in omega arith)

        ended : {A : Type 0} {q : Plan} (k : Result Unit ℕ) (p : Plan) (s : State) → unless_broken k (Planned.says p s) ≡ Planned.reset q → A
        ended (Ok tt) p s f = says_other f
        ended (Err place) p s f = refused_other f

    heard_hashes_lem : AreHashes (heard x.their_heads)
    unfolding AreHashes
    heard_hashes_lem = found x.their_heads good.their_heads
      where
        found : (o : Option (List ℕ)) → WhereHeard SoundHashes o → AreHashes (heard o)
        found none g = tt
        found (some hs) g = g.are

    may_hashes : MayGo t body check → AreHashes body.hashes
    unfolding held
    may_hashes may = hashes_inside body.hashes (rows t) sound.are (λ h m. every_member (held t) body.hashes may.own h m)

    -- what goes with a message are hashes
    said_hashes : (q : Plan) (s : State) → plan_passing pass setting.bits setting.probes t w x ≡ Planned.says q s → AreHashes body.hashes
    said_hashes q s e =
        may_hashes (may_go t x pass sound good (fine_accepted t x pass (plan_saying setting.bits setting.probes t w x body check q s (over e)).fine))

    -- and it leaves a good session
    leaves_good : (q : Plan) (s : State) → plan_passing pass setting.bits setting.probes t w x ≡ Planned.says q s → GoodState s
    leaves_good q s e = body_good setting.bits setting.probes t w x sound good body check (said_hashes q s e) q s (over e)

    pub says_fine : (q : Plan) (s : State) → plan_passing pass setting.bits setting.probes t w x ≡ Planned.says q s → Fine q
    unfolding plan_of
    says_fine q s e =
        let p = plan_saying setting.bits setting.probes t w x body check q s (over e) in
        let may = may_go t x pass sound good (fine_accepted t x pass p.fine) in
        let need = missing_hashes t waiting (heard x.their_heads) beside.bytes heard_hashes_lem in
        let g = said_sound setting.bits setting.probes keeps t sound w x good need body check q s (over e) in
        record {
          heads = g.heads;
          need = g.need;
          haves = g.haves;
          one = rw p.message (have_or_none setting.bits setting.probes t _ _ _);
          few = rw p.message may.few;
          are = rw p.message (may_hashes may);
          flags = rw p.message (small_flags _ (said_flags _ _));
        }
      where
        small_flags : (n : ℕ) → n < 0x80 → n < 256
        small_flags n h = omega arith

    module _ (o : Buffers) (l : Lent) (wide : RoomyOut o) (room : Roomy l) where
      -- 7 is never answered
      has_room : (p : Planned) → plan_passing pass setting.bits setting.probes t w x ≡ p → planned_roomed (planned_rooms o l) p ≡ p
      unfolding planned_roomed
      has_room (Planned.refused r) e = refl
      has_room Planned.silent e = refl
      has_room (Planned.reset q) e = reset_roomed o l wide room q (rw (reset_is q e) reset_fine)
      has_room (Planned.says q s) e =
          says_roomed o l wide room q s (says_fine q s e) (leaves_good q s e)

      -- what is planned for the words is the step's plan
      plan_with_lem : (p : Passes) (c : Session) → c ≡ counts_of x → session_good (counts_of x) l ≡ true → state_of (counts_of x) l ≡ x
          → plan_made setting p c l table tabled.index waiting ≡ plan_passing p setting.bits setting.probes t w x
      unfolding plan_with tables_checked passed_on after_tables
      plan_with_lem Passes.all c counts goods value = rw (counts, goods, tabled.good, beside.good, value)
      plan_with_lem (Passes.picked rowSizes budget pick) c counts goods value = rw (counts, goods, tabled.good, beside.good, value)

    -- ---- the call

    module _ (m m' : Memory) (o o' : Buffers) (answer : List ℕ) (h : Holds x m) (wide : RoomyOut o)
        (made : PlanMade setting pass table tabled.index waiting m m' o o' answer) where
      abbrev p : Planned
      p = plan_passing pass setting.bits setting.probes t w x

      plan_for : planned_roomed (planned_rooms o m.lists) (plan_made setting pass (session_of m.words) m.lists table tabled.index waiting) ≡ p
      plan_for =
          ap (planned_roomed (planned_rooms o m.lists)) (plan_with_lem o m.lists wide h.room pass (session_of m.words) h.counts h.stays.good h.stays.value)
          ∙ has_room o m.lists wide h.room p refl

      -- it answers what the step plans
      pub plan_answer : answer ≡ planned_words (planned_answer p)
      plan_answer = made.call.answer ∙ ap (λ (q : Planned). planned_words (planned_answer q)) plan_for

      plan_words : m'.words ≡ planned_session (planned_answer p) m.words
      plan_words = made.call.session ∙ ap (λ (q : Planned). planned_session (planned_answer q) m.words) plan_for

      plan_buffers : o' ≡ put_into p o
      plan_buffers = made.call.buffers ∙ ap (λ (q : Planned). put_into q o) plan_for

      plan_lists : m'.lists ≡ planned_lists p m.lists
      plan_lists = made.call.lists ∙ ap (λ (q : Planned). planned_lists q m.lists) plan_for

      -- what isn't a message leaves the memory as it was
      unchanged : planned_lists p m.lists ≡ m.lists → planned_session (planned_answer p) m.words ≡ m.words → Holds x m'
      unchanged e g =
          let same : m'.lists ≡ m.lists = plan_lists ∙ e in
          let words : m'.words ≡ m.words = plan_words ∙ g in
          record {
            counts = ap session_of words ∙ h.counts;
            stays = rw same h.stays;
            bytes = made.bytes;
            room = rw same h.room;
          }

      -- a message leaves the session that is planned
      changed : (q : Plan) (s : State) → p ≡ Planned.says q s → Holds s m'
      unfolding planned_answer planned_lists
      changed q s e =
          let l : Lent = m.lists in
          let left : GoodState s = leaves_good q s e in
          let lists : m'.lists ≡ planned_in s l = rw e at plan_lists in
          let words : m'.words ≡ session_words (counts_of s) = rw e at plan_words in
          let before : plan_body setting.bits setting.probes t w (state_of (counts_of x) l) body check ≡ Planned.says q s = rw h.stays.value (over e) in
          record {
            counts = ap session_of words ∙ words_back (counts_of s);
            stays =
                rw lists
                (body_stays_good setting.bits setting.probes t w sound (counts_of x) l h.stays.good (of_bytes l h.bytes) body check (said_hashes q s e) q s before
                (planned_room o l wide h.room s left));
            bytes = made.bytes;
            room = rw lists (still_roomy s l h.room);
          }

      after_call : (p' : Planned) → p ≡ p' → Holds (after p' x) m'
      unfolding planned_answer planned_lists
      after_call (Planned.refused r) e = unchanged (rw e) (rw e)
      after_call Planned.silent e = unchanged (rw e) (rw e)
      after_call (Planned.reset q) e = unchanged (rw e) (rw e)
      after_call (Planned.says q s) e = changed q s e

      -- and the memory holds the session that the step leaves
      pub plan_holds : Holds (after p x) m'
      plan_holds = after_call p refl

      -- and what the step says stands in the buffers
      pub plan_put : (q : Plan) → put_into p o ≡ message_put q o → PlanPut q o o'
      plan_put q e =
          let is : o' ≡ message_put q o = plan_buffers ∙ e in
          record {
            heads = ap (λ (b : Buffers). b.heads) is;
            need = ap (λ (b : Buffers). b.need) is;
            have = ap (λ (b : Buffers). b.have) is;
            list = ap (λ (b : Buffers). b.list) is;
          }
