-- A message can always be made by calls, and so can a round: over memory that holds two sessions, with tables that are good and bytes that are lent, each call's
-- answer and what it leaves are there, and they are bytes. So a talk of calls isn't about nothing. Assumes nothing.
use Prim.Native.Nat.{ℕ, zero, suc, ◌+◌, ◌*◌, ◌≤◌}
use mathlib.Core.Bool.{true, cond}
use mathlib.Core.List.{List, [], ◌∷◌, map}
use mathlib.Core.Option.{Option}
use mathlib.Core.Path.{◌≡◌, refl, sym, ap, ap₂, subst, ◌∙◌}
use native.Mathlib.Omega.{arith}
use borrow.Author.Tests.{ltb-true, ltb-false}
use lib.Dec.{ltb, eqb}
use lib.ListN.{length, get_or, take, length-append}
use lib.Seq.{slice, take-length}
use Rattle.call_words.specs.Answer.{write_words}
use Rattle.bloom.specs.Filter.{SettingGood}
use Rattle.bloom.specs.Have.{Have, have_count, numbers_in, filter_with, have_in, haves_from, haves_of}
use Rattle.bloom.specs.declared.setting.Setting.{Setting}
use Rattle.message_read.specs.MessageRead.{Reading, message_at, message_in}
use Rattle.session.proofs.ReceiveLaws.{receive_taking, bytes_beyond, bytes_refused, bytes_read}
use Rattle.session.specs.Receive.{said_in, Received, received, receive_bytes}
use Rattle.rules.proofs.ByteLaws.{bytes_none}
use Rattle.walk_hosts.proofs.AllBytes.{bytes_sets, hashes_bytes_lem, field_bytes, FieldBytes, laid_bytes_lem, plan_bytes}
use Rattle.walk_hosts.specs.Memory.{Memory, OfBytes, Holds, Fresh, RoomyOut, Tabled, Beside, HostBytes}
use Rattle.message.specs.Message.{joined, total}
use Rattle.message.specs.Sound.{Each}
use Rattle.message.specs.Write.{parts_of, chunks_from, message_output}
use Rattle.message_calls.specs.MessageWords.{version_of, section_of}
use Rattle.hash_order.specs.Order.{member, every}
use Rattle.session.specs.PlanCall.{Buffers, planned_answer, planned_roomed, planned_rooms, put_into, planned_lists}
use Rattle.session.specs.ReceiveCall.{received_answer, received_lists}
use Rattle.rules.proofs.Cases.{split}
use Rattle.rules.proofs.Hash.{slice_parts, bytes_slice}
use Rattle.rules.specs.Hash.{Bytes, hashes_bytes}
use Rattle.rules.specs.Output.{Output, answer_of as answerTo, content_of}
use Rattle.rules.specs.Sizes.{sizes}
use Rattle.rules.specs.declared.refusal.Refusal.{Refusal}
use Rattle.session.proofs.PlanLaws.{have_one, have_none, plan_saying}
use Rattle.session.specs.Laid.{laid_bytes}
use Rattle.session.specs.Plan.{Plan, Planned, heard, need_of, have_of, plan_of, reset_of}
use Rattle.call_words.specs.SessionWords.{session_of}
use Rattle.plan_calls.specs.PlanWords.{planned_words, planned_session}
use Rattle.receive_calls.specs.ReceiveWords.{received_words, received_session, receive_for}
use Rattle.session_state.specs.Session.{State}
use Rattle.session_state.specs.Value.{Lent}
use Rattle.table.specs.TableBytes.{table_of}
use Rattle.table.specs.Table.{Row}
use Rattle.walk_sessions.proofs.Passing.{body_passed, check_passed, passing_is}
use Rattle.walk_sessions.specs.Passing.{Passes, plan_passing}
use Rattle.walk_sessions.specs.Talk.{bytes_for, pair_at}
use Rattle.waiting.specs.WaitingBytes.{waiting_of}
use Rattle.waiting.specs.Waiting.{Waiting}
use Rattle.walk_hosts.specs.Calls.{speaks, have_words_in, plan_in, plan_made, PlanMade, Speaks, Hears, Both}
use Rattle.walk_hosts.specs.Calls.{GoodSettings, CallsRound, TalkOfCalls, AreSessions, Lends, CallsGo}
use Rattle.walk_hosts.proofs.OneMessage.{message_heard}
use Rattle.walk_hosts.proofs.Planning.{held_good, reset_is}
use Rattle.walk_hosts.proofs.Receiving.{receive_for_lem}
use Rattle.walk_hosts.proofs.Speaking.{speaking_holds, crossing}
use Rattle.walk_hosts.proofs.Talk.{fresh_holds, next}
use Rattle.session.specs.Written.{Host, chunks_for}

-- ---- chunks as they are lent: one after the other, with their lengths

abbrev one_after : List (List ℕ) → List ℕ
one_after cs = joined (λ (c : List ℕ). c) cs

abbrev lengths_of : List (List ℕ) → List ℕ
lengths_of cs = map (λ (c : List ℕ). length c) cs

cut_again : (cs : List (List ℕ)) (s : List ℕ) (at : ℕ) → slice at (length s) s ≡ one_after cs → at + length (one_after cs) ≤ length s
    → chunks_from s at (lengths_of cs) ≡ cs
unfolding chunks_from joined
cut_again [] s at e h = refl
cut_again (c ∷ cs) s at e h =
    let long : length (one_after (c ∷ cs)) ≡ length c + length (one_after cs) = length-append c (one_after cs) in
    let p = slice_parts (length c) at (length s) s c (one_after cs) (omega arith) refl e in
    ap₂ (λ (x : List ℕ) (xs : List (List ℕ)). x ∷ xs) p.0 (cut_again cs s (at + length c) p.1 (omega arith))

lends_all : (cs : List (List ℕ)) → chunks_from (one_after cs) 0 (lengths_of cs) ≡ cs
lends_all cs = cut_again cs (one_after cs) 0 (take-length (one_after cs)) (omega arith)

whole_all : (cs : List (List ℕ)) → total (lengths_of cs) ≡ length (one_after cs)
unfolding total joined
whole_all [] = refl
whole_all (c ∷ cs) = ap (λ (n : ℕ). length c + n) (whole_all cs) ∙ sym (length-append c (one_after cs))

-- ---- what is planned has fields of bytes

module _ (setting : Setting) (keeps : SettingGood setting.bits setting.probes) (pass : Passes) (table waiting : List ℕ) (tabled : Tabled table)
    (beside : Beside (table_of table) waiting) (x : State) (m : Memory) (h : Holds x m) where
  abbrev t : List Row
  t = table_of table

  abbrev w : List Waiting
  w = waiting_of waiting

  planned_fields : (q : Plan) (s : State) → plan_passing pass setting.bits setting.probes t w x ≡ Planned.says q s → Each FieldBytes q.haves
  unfolding plan_of have_of Each
  planned_fields q s e =
      let need : List ℕ = need_of t w x.read_only (heard x.their_heads) in
      let over = sym (passing_is pass setting.bits setting.probes t w x) ∙ e in
      rw (plan_saying setting.bits setting.probes t w x (body_passed t x pass) (check_passed t x pass) q s over).message
      (split (every (λ g. member g (heard x.their_heads)) need)
      (λ f.
      rw (have_one setting.bits setting.probes t need (heard x.their_heads) x.shared_heads f)
      (field_bytes setting.bits setting.probes _, tt))
      (λ f. rw (have_none setting.bits setting.probes t need (heard x.their_heads) x.shared_heads f) tt))

  reset_fields : (q : Plan) → plan_passing pass setting.bits setting.probes t w x ≡ Planned.reset q → Each FieldBytes q.haves
  unfolding reset_of Each
  reset_fields q e = rw (reset_is table waiting tabled beside setting keeps pass x (held_good x m h) q e) (bytes_none, tt)

  said_bytes : (host : Host) → HostBytes host → (p : Planned) → plan_passing pass setting.bits setting.probes t w x ≡ p → Bytes (bytes_for host p)
  unfolding bytes_for
  said_bytes host b (Planned.refused r) e = bytes_none
  said_bytes host b Planned.silent e = bytes_none
  said_bytes host b (Planned.reset q) e = plan_bytes host b q (reset_fields q e)
  said_bytes host b (Planned.says q s) e = plan_bytes host b q (planned_fields q s e)

  -- ---- a unit speaks

  planned_bytes : (q : Planned) (l : Lent) → OfBytes l → OfBytes (planned_lists q l)
  unfolding planned_lists
  planned_bytes (Planned.refused r) l b = b
  planned_bytes Planned.silent l b = b
  planned_bytes (Planned.reset p) l b = b
  planned_bytes (Planned.says p after) l b =
      record {
        shared = b.shared;
        last_sent = bytes_sets (hashes_bytes after.last_sent_heads) l.last_sent 0 b.last_sent (hashes_bytes_lem _);
        their_heads = b.their_heads;
        their_need = b.their_need;
        bytes = b.bytes;
        sent = bytes_sets (hashes_bytes after.sent_hashes) l.sent 0 b.sent (hashes_bytes_lem _);
      }

  module _ (host : Host) (b : HostBytes host) (o : Buffers) (wide : RoomyOut o) (buffer : List ℕ) (room : sizes.message ≤ length buffer) where
    abbrev planned : Planned
    planned = planned_roomed (planned_rooms o m.lists) (plan_made setting pass (session_of m.words) m.lists table tabled.index waiting)

    abbrev then : Memory
    then = record { words = planned_session (planned_answer planned) m.words; lists = planned_lists planned m.lists }

    abbrev parts : Buffers
    parts = put_into planned o

    abbrev answer : List ℕ
    answer = planned_words (planned_answer planned)

    plans : PlanMade setting pass table tabled.index waiting m then o parts answer
    plans =
        record {
          call = record { answer = refl; session = refl; lists = refl; buffers = refl };
          bytes = planned_bytes planned m.lists h.bytes;
        }

    abbrev lent : List (List ℕ)
    lent = chunks_for host (plan_in answer parts)

    abbrev output : Output
    output =
        message_output (parts_of (version_of (get_or answer 2 0)) (take (sizes.hash * get_or answer 5 0) parts.heads) (take (sizes.hash * get_or answer 6 0) parts.need)
        parts.have (have_words_in answer) (one_after lent) (lengths_of lent) (section_of (get_or answer 3 0)))

    abbrev written : List ℕ
    written = write_words (answerTo output (length buffer))

    abbrev message : List ℕ
    message = cond (speaks answer) (cond (eqb (get_or written 0 0) 0) (take (get_or written 1 0) (content_of output buffer)) []) []

    speech : Speaks setting pass host table tabled.index waiting m then message
    speech =
        record {
          out = o;
          out' = parts;
          room = wide;
          answer = answer;
          plans = plans;
          silent = λ e. rw e;
          written = written;
          writes =
              λ e.
              record {
                chunks = one_after lent;
                lengths = lengths_of lent;
                lends = lends_all lent;
                whole = omega (arith, whole_all lent);
                before = buffer;
                after = content_of output buffer;
                room = room;
                call = record { answer = refl; content = refl };
                message_is = rw e;
              };
        }

    speech_bytes : Bytes message
    speech_bytes =
        let p : Planned = plan_passing pass setting.bits setting.probes t w x in
        let c = crossing setting keeps pass host table waiting tabled beside x m then h message speech p refl in
        split (ltb sizes.message (length (bytes_for host p)))
        (λ e. let none : message ≡ [] = c.long (ltb-true _ _ e) in subst Bytes (sym none) bytes_none)
        (λ e. let same : message ≡ bytes_for host p = c.small (ltb-false _ _ e) in subst Bytes (sym same) (said_bytes host b p refl))

-- ---- a unit hears

read_fields : (s haves : List ℕ) → Bytes s → (count i : ℕ) → Each FieldBytes (haves_from s haves i count)
unfolding Each haves_from have_in filter_with
read_fields s haves b zero i = tt
read_fields s haves b (suc count) i = (let f = numbers_in haves i in bytes_slice s f.place (f.place + f.size) b, read_fields s haves b count (suc i))

-- Haves that were heard have fields of bytes.
abbrev HeardFields : Option (List Have) → Type 0
HeardFields o = Each FieldBytes (heard o)

module _ (before : ℕ) (t : List Row) (x : State) (message : List ℕ) (said : Bytes message) where
  untaken : {C : Type 0} {q : Refusal} {s : State} → Received.refused q ≡ Received.took s → C
  untaken f = absurd (let c : ◌≡◌ {A = ℕ} 0 1 = cc in omega arith)

  read_heard : before ≤ length t → (y : Reading) → message_at message ≡ y → (s : State) → receive_bytes true before t x message ≡ Received.took s
      → HeardFields s.their_have
  unfolding received said_in message_in haves_of
  read_heard inside (Reading.refused q) r s e = untaken (sym (bytes_refused true before t x message inside q r) ∙ e)
  read_heard inside (Reading.read p haves chunks) r s e =
      let taking = receive_taking true before t x _ s (sym (bytes_read true before t x message inside p haves chunks r) ∙ e) in
      rw taking.session (read_fields message haves said (have_count haves) 0)

  heard_fields : (s : State) → receive_bytes true before t x message ≡ Received.took s → HeardFields s.their_have
  heard_fields s e =
      split (ltb (length t) before)
      (λ f. untaken (sym (bytes_beyond true before t x message (ltb-true _ _ f)) ∙ e))
      (λ f. read_heard (ltb-false _ _ f) (message_at message) refl s e)

kept_bytes : (y : Received) (l : Lent) → OfBytes l → ((s : State) → y ≡ Received.took s → HeardFields s.their_have) → OfBytes (received_lists y l)
unfolding received_lists
kept_bytes (Received.refused q) l b f = b
kept_bytes (Received.failed s) l b f = b
kept_bytes (Received.took s) l b f =
    record {
      shared = bytes_sets (hashes_bytes s.shared_heads) l.shared 0 b.shared (hashes_bytes_lem _);
      last_sent = bytes_sets (hashes_bytes s.last_sent_heads) l.last_sent 0 b.last_sent (hashes_bytes_lem _);
      their_heads = bytes_sets (hashes_bytes (heard s.their_heads)) l.their_heads 0 b.their_heads (hashes_bytes_lem _);
      their_need = bytes_sets (hashes_bytes (heard s.their_need)) l.their_need 0 b.their_need (hashes_bytes_lem _);
      bytes = bytes_sets (laid_bytes (heard s.their_have)) l.bytes 0 b.bytes (laid_bytes_lem _ (f s refl));
      sent = bytes_sets (hashes_bytes s.sent_hashes) l.sent 0 b.sent (hashes_bytes_lem _);
    }

module _ (table : List ℕ) (tabled : Tabled table) (before : ℕ) (message : List ℕ) (said : Bytes message) (x : State) (m : Memory) (h : Holds x m) where
  abbrev gives : Received
  gives = receive_for m.words m.lists table tabled.index before message true

  abbrev later : Memory
  later = record { words = received_session (received_answer gives) m.words; lists = received_lists gives m.lists }

  later_bytes : OfBytes later.lists
  later_bytes =
      kept_bytes gives m.lists h.bytes
      (λ s e. heard_fields before (table_of table) x message said s (sym (receive_for_lem table tabled before message said x m h) ∙ e))

  hearing : Hears table tabled.index before message m later
  hearing =
      record {
        answer = received_words (received_answer gives);
        call = record { answer = refl; session = refl; lists = refl };
        said = said;
        bytes = later_bytes;
      }

-- ---- a message

-- A message that is made by calls, from a unit with this memory to one with that: its bytes, and what both keep after it.
pub record MessageMade (setting : Setting) (pass : Passes) (host : Host) (table index waiting : List ℕ) (m : Memory) (theirs theirIndex : List ℕ) (before : ℕ)
    (l : Memory) : Type 0 where
  pub message : List ℕ
  pub spoken : Memory
  pub heard : Memory
  pub speaks : Speaks setting pass host table index waiting m spoken message
  pub hears : Hears theirs theirIndex before message l heard

pub message_goes : (setting : Setting) → SettingGood setting.bits setting.probes
    → (pass : Passes) (host : Host) → HostBytes host
    → (o : Buffers) → RoomyOut o
    → (buffer : List ℕ) → sizes.message ≤ length buffer
    → (table waiting : List ℕ) (tabled : Tabled table) → Beside (table_of table) waiting
    → (x : State) (m : Memory) → Holds x m
    → (theirs : List ℕ) (accepted : Tabled theirs) (before : ℕ) (y : State) (l : Memory) → Holds y l
    → MessageMade setting pass host table tabled.index waiting m theirs accepted.index before l
message_goes setting keeps pass host b o wide buffer room table waiting tabled beside x m h theirs accepted before y l held =
    let are = speech_bytes setting keeps pass table waiting tabled beside x m h host b o wide buffer room in
    record {
      message = message setting keeps pass table waiting tabled beside x m h host b o wide buffer room;
      spoken = then setting keeps pass table waiting tabled beside x m h host b o wide buffer room;
      heard = later theirs accepted before _ are y l held;
      speaks = speech setting keeps pass table waiting tabled beside x m h host b o wide buffer room;
      hears = hearing theirs accepted before _ are y l held;
    }

-- ---- a round

module _ (setA set_b : ℕ → Setting) (keep : GoodSettings setA set_b) (pass : ℕ → Passes) (a : List ℕ) (b w u : ℕ → List ℕ) (hosts : ℕ → Host)
    (lends : Lends setA set_b pass a b w u hosts) where
  module _ (k : ℕ) (s : Both) (x y : State) (heldA : Holds x s.at_a) (held_b : Holds y s.at_b) where
    asks : MessageMade (set_b k) Passes.all (hosts k) (b k) (lends.table_b k).index (w k) s.at_b a lends.table_a.index (length (table_of a)) s.at_a
    asks =
        message_goes (set_b k) (keep.at_b k) Passes.all (hosts k) (lends.changes k) lends.out lends.wide lends.buffer lends.room
        (b k) (w k) (lends.table_b k) (lends.waits_b k) y s.at_b held_b a lends.table_a (length (table_of a)) x s.at_a heldA

    answers : MessageMade (setA k) (pass k) (hosts k) a lends.table_a.index (u k) asks.heard
        (b (suc k)) (lends.table_b (suc k)).index (length (table_of (b k))) asks.spoken
    answers =
        message_goes (setA k) (keep.at_a k) (pass k) (hosts k) (lends.changes k) lends.out lends.wide lends.buffer lends.room
        a (u k) lends.table_a (lends.waits_a k) _ asks.heard
        (message_heard (set_b k) (keep.at_b k) Passes.all (hosts k) (b k) (w k) (lends.table_b k) (lends.waits_b k) y _ _ held_b _ asks.speaks
        a lends.table_a (length (table_of a)) x _ _ heldA asks.hears)
        (b (suc k)) (lends.table_b (suc k)) (length (table_of (b k))) _ asks.spoken
        (speaking_holds (set_b k) (keep.at_b k) Passes.all (hosts k) (b k) (w k) (lends.table_b k) (lends.waits_b k) y _ _ held_b _ asks.speaks)

    abbrev end : Both
    end = record { at_a = answers.spoken; at_b = answers.heard }

    goes : CallsRound setA set_b pass a b w u hosts k s end
    goes =
        record {
          table_a = lends.table_a;
          table_b = lends.table_b k;
          loaded_b = lends.table_b (suc k);
          waits_a = lends.waits_a k;
          waits_b = lends.waits_b k;
          mid_a = asks.heard;
          mid_b = asks.spoken;
          question = asks.message;
          reply = answers.message;
          asks = asks.speaks;
          hears = asks.hears;
          answers = answers.speaks;
          takes = answers.hears;
        }

  -- ---- all rounds

  module _ (start : Both) (fresh_a : Fresh start.at_a) (fresh_b : Fresh start.at_b) where
    standing : (k : ℕ) → (s : Both) × AreSessions setA set_b pass a b w u hosts k s
    unfolding pair_at
    standing zero = (start, record { holds_a = fresh_holds start.at_a fresh_a; holds_b = fresh_holds start.at_b fresh_b })
    standing (suc k) =
        let (s, h) = standing k in
        (end k s _ _ h.holds_a h.holds_b, next setA set_b keep pass a b w u hosts k s _ (goes k s _ _ h.holds_a h.holds_b) h)

    talk : (n : ℕ) → TalkOfCalls setA set_b pass a b w u hosts n
    unfolding standing
    talk n =
        record {
          at = λ k. (standing k).0;
          fresh_a = fresh_a;
          fresh_b = fresh_b;
          made = λ k h. goes k (standing k).0 _ _ (standing k).1.holds_a (standing k).1.holds_b;
        }

pub calls_go : CallsGo
calls_go = talk
