-- What was counted has room where it is put, and once it is put it is what the call promises. Assumes nothing.
use Prim.Native.Nat.{ℕ, ◌+◌, ◌*◌, ◌≤◌}
use mathlib.Core.Bool.{Bool, true, false}
use mathlib.Core.List.{List, []}
use mathlib.Core.Option.{Option as Maybe}
use mathlib.Core.Path.{◌≡◌, sym, ap, ◌∙◌}
use native.Mathlib.Omega.{arith}
use borrow.Author.Tests.{eqb-false, not-true}
use lib.Dec.{eqb}
use lib.Seq.{sets}
use lib.ListN.{length, replicate, length-replicate}
use Rattle.bloom.specs.Filter.{field_size, SettingGood}
use Rattle.bloom_probe.proofs.BuildLaws.{rules_field}
use Rattle.bloom_probe.specs.Build.{add_hashes, filter_of}
use Rattle.plan_decide.proofs.PutLaws.{lists_of, changed, buffers_same}
use Rattle.plan_decide.specs.Internal.Draft.{SmallDraft, Fits, unless_none, put_rooms, puts_of, decided, list_put, start_put}
use Rattle.plan_decide.specs.declared.decide.Draft.{Draft}
use Rattle.plan_decide.specs.declared.puts.Puts.{Puts}
use Rattle.plan_put.specs.Internal.PlanPut.{MessageReady, MessagePut, SessionReady, SessionPut}
use Rattle.table_graph.proofs.MarkLaws.{blank}
use Rattle.table_graph.specs.Graph.{beyond}
use Rattle.table_graph.specs.Internal.Marks.{marked, picked}
use Rattle.table_index.specs.Index.{Indexed}
use Rattle.session_check.proofs.GoodSessions.{list_parts, session_tests, session_parts}
use Rattle.session_check.specs.SessionGood.{heard_good, session_good}
use Rattle.hash_order.specs.Order.{member, every}
use Rattle.hash_refs.specs.Internal.Refs.{found_by, FoundRefs}
use Rattle.session.specs.PlanCall.{Buffers, buffers_of}
use Rattle.session.specs.declared.plan_answer.PlanAnswer.{PlanAnswer}
use Rattle.session.specs.declared.plan_answer.Rooms.{Rooms}
use Rattle.plan_parts.specs.Internal.PlanParts.{NeedCounted, NeedFound}
use Rattle.plan_parts.specs.declared.need.Asked.{Asked}
use Rattle.rules.proofs.Cases.{split, both}
use Rattle.rules.proofs.Hash.{length_hashes_at}
use Rattle.rules.specs.Hash.{hashes_at, hashes_bytes}
use Rattle.rules.specs.Sizes.{sizes}
use Rattle.send.specs.Internal.Chosen.{chosen_by}
use Rattle.session.specs.Plan.{Body, sent_after}
use Rattle.session_state.specs.Value.{Lent, heard_count, state_of}
use Rattle.session_state.specs.declared.session.Session.{Session}
use Rattle.table.proofs.TableLaws.{length_rows_at}
use Rattle.table.specs.TableBytes.{rows_at}
use Rattle.table.specs.Table.{Row, rows as hashes, hash_of}
use Rattle.plan_count.specs.Internal.PlanCount.{BlankMarks, PlanMarked, DraftCounted}
use Rattle.plan_make.specs.Internal.PlanMake.{plan_parts_of, Finished, AskedCalled}
use Rattle.plan_make.proofs.MadeLaws.{entries_few, small_made, plan_called}
use Rattle.plan_parts.proofs.HeardLaws.{heard_there}
use Rattle.std.specs.Prelude.{Option, Result, Ok, Some, None}
use Rattle.rules.specs.declared.refusal.Refusal.{Refusal}

-- ---- marks that aren't set

heard_most : (s : List ℕ) (h : Option ℕ) → heard_good s h ≡ true → heard_count h ≤ sizes.hashes
unfolding heard_good
heard_most s None g = omega arith
heard_most s (Some n) g = (list_parts s n g).few

module _ {table index : List ℕ} {n : ℕ} (s : Session) (l : Lent) (rows : Indexed table index n) (good : session_good s l ≡ true) where
  pub blank_marks : BlankMarks n (heard_count s.their_need) (replicate sizes.rows false) (replicate sizes.rows false) (replicate sizes.rows false)
      (replicate sizes.hashes false) (replicate sizes.rows false)
  blank_marks =
      let rows_few : n ≤ sizes.rows = rows.rows.few in
      let needs-few : heard_count s.their_need ≤ sizes.hashes = heard_most l.their_need s.their_need (session_tests s l good).their_need in
      let long : n ≤ length (replicate sizes.rows false) = omega (arith, length-replicate sizes.rows false) in
      record {
        head_long = long;
        no_head = blank _ _ rows_few;
        have_long = long;
        no_have = blank _ _ rows_few;
        body =
            record {
              row_marks = long;
              no_row = blank _ _ rows_few;
              need_marks = omega (arith, length-replicate sizes.hashes false);
              no_need = blank _ _ needs-few;
            };
        fresh_long = long;
        no_fresh = blank _ _ rows_few;
      }

  -- ---- what was counted

  module _ {bits probes : ℕ} (setting : SettingGood bits probes) {headMarks haveMarks marks needs fresh : List Bool} {b : Body}
      {k : Result Unit ℕ} {a : Asked} {d : Draft}
      (m : PlanMarked (rows_at table 0 n) n (state_of s l) b k (hashes_at l.their_need 0 (heard_count s.their_need)) headMarks haveMarks marks needs fresh d)
      (c : DraftCounted (rows_at table 0 n) (state_of s l) b k a d)
      (within : a.count ≤ sizes.hashes + 1) where
    abbrev t : List Row
    t = rows_at table 0 n

    rows_few : length t ≤ sizes.rows
    rows_few = rw (length_rows_at table 0 n) rows.rows.few

    pub small_counted : SmallDraft s d bits
    small_counted = small_made bits probes t s l b k a d c within rows_few good setting m.few m.small

    module _ {r : Rooms} {p : Puts} (f : Fits s d bits p r) where
      head_room : (count room : ℕ) → count ≡ d.heads → sizes.hash * count ≤ room → sizes.hash * marked n headMarks ≤ room
      head_room count room e h = omega (arith, m.heads_many)

      body_room : (count room : ℕ) → count ≡ d.body.hashes → d.picked ≡ Ok tt → sizes.hash * count ≤ room
          → sizes.hash * length (chosen_by t marks (hashes_at l.their_need 0 (heard_count s.their_need)) needs) ≤ room
      body_room count room e fine h = omega (arith, c.hashes, ap length (m.list (sym c.picked ∙ fine)))

      pub message_ready : (j : ℕ) → j ≡ heard_count s.their_need
          → MessageReady p table index n headMarks haveMarks marks needs l.their_need j (length l.shared)
          r.heads r.have r.list
      message_ready j e =
          record {
            rows = rows;
            head_long = m.head_long;
            have_long = m.have.long;
            row_long = m.row_long;
            need_long = omega (arith, m.need_long, length_hashes_at l.their_need 0 (heard_count s.their_need));
            asks = omega (arith, heard_there l.their_need s.their_need j e (session_tests s l good).their_need);
            heads = λ q. head_room p.heads _ (f.heads q) f.heads_room;
            have = record { hashes = omega (arith, f.syncs, (session_parts s l good).shared.there); fits = f.have_room };
            field =
                λ q.
                let g = f.field q in
                let few : d.entries ≤ sizes.rows = entries_few bits probes t s l b k a d c within rows_few good setting in
                let rule = rules_field d.entries bits probes (setting.each d.entries few) in
                (omega (arith, g.0, m.have.many g.1, rule.0), omega (arith, g.0, rule.1));
            list = λ q. rw e (body_room p.hashes _ (f.list q).0 (f.list q).1 f.list_room);
          }

      pub session_ready : r.sent ≤ length l.sent → SessionReady p table index n headMarks fresh s.sent_hashes r.last_sent l.sent
      session_ready there =
          record {
            rows = rows;
            head_long = m.head_long;
            fresh_long = m.fresh_long;
            heads = λ q. head_room p.last_sent _ (f.last_sent q) f.last_sent_room;
            sent =
                λ q.
                let new = m.new (sym c.picked ∙ (f.sent q).1) in
                record {
                  ascending = (session_parts s l good).sent.ascending;
                  apart = λ i h e. not-true _ (both (member (hash_of t i) b.hashes) _ (sym (new.those.each i h) ∙ e)).1;
                  many = omega (arith, (f.sent q).0, new.all, length_hashes_at l.sent 0 s.sent_hashes);
                  room = omega (arith, f.sent_room);
                };
          }

      -- ---- what is put

      put_same : (count : ℕ) {x y : List ℕ} (buffer : List ℕ) → ((count ≡ 0 → ⊥) → x ≡ y) → list_put count x buffer ≡ list_put count y buffer
      unfolding unless_none
      put_same count buffer same = split (eqb count 0) (λ z. rw z) (λ z. rw (same (eqb-false count 0 z)))

      field_is : unless_none p.field (add_hashes probes (replicate p.field 0) (picked (hashes t) haveMarks))
          ≡ unless_none p.field (filter_of bits probes (beyond t (state_of s l).shared_heads)).field
      unfolding unless_none filter_of
      field_is =
          split (eqb p.field 0)
          (λ e. rw e)
          (λ e.
          let g = f.field (eqb-false p.field 0 e) in
          let size : p.field ≡ field_size (length (beyond t (state_of s l).shared_heads)) bits =
          g.0 ∙ ap (λ (z : ℕ). field_size z bits) (c.entries g.1)
          in
          rw (e, m.have.those g.1) (ap (λ (z : ℕ). add_hashes probes (replicate z 0) (beyond t (state_of s l).shared_heads)) size))

      module _ (last_sent sent heads₀ have₀ list₀ heads₁ have₁ list₁ : List ℕ) (j : ℕ) (e : j ≡ heard_count s.their_need)
          (put : MessagePut p probes t headMarks haveMarks marks needs (hashes_at l.their_need 0 j) l.shared heads₀ have₀ list₀ heads₁ have₁ list₁)
          (kept : SessionPut p t headMarks fresh s.sent_hashes l.last_sent l.sent last_sent sent) where
        chosen_is : (p.hashes ≡ 0 → ⊥) → chosen_by t marks (hashes_at l.their_need 0 j) needs ≡ b.hashes
        chosen_is some = ap (λ (z : ℕ). chosen_by t marks (hashes_at l.their_need 0 z) needs) e ∙ m.list (sym c.picked ∙ (f.list some).1)

        module _ (answer : Result PlanAnswer Refusal) (q : p ≡ puts_of answer) where
          module _ (asks need₀ need₁ : List ℕ) (last : need₁ ≡ list_put (puts_of answer).need asks need₀) where
            abbrev before : Buffers
            before = buffers_of heads₀ need₀ have₀ list₀

            abbrev after : Buffers
            after = buffers_of heads₁ need₁ have₁ list₁

            put_finished : answer ≡ decided s d bits probes (put_rooms (lists_of before l))
                → Finished s d bits probes (plan_parts_of bits probes t (state_of s l) b asks l.shared) (lists_of before l)
                (lists_of after (changed l last_sent sent)) answer
            unfolding sent_after
            put_finished is =
                record {
                  answer = is;
                  buffers =
                      buffers_same
                      (rw q at (put.heads ∙ ap (λ (z : List ℕ). list_put p.heads z heads₀) m.heads))
                      last
                      (rw q at (put.have ∙ ap (λ (z : List ℕ). sets (start_put p.syncs l.shared have₀) (sizes.hash * p.syncs) z) field_is))
                      (rw q at (put.list ∙ put_same p.hashes list₀ chosen_is))
                      (rw q at (kept.heads ∙ ap (λ (z : List ℕ). list_put p.last_sent z l.last_sent) m.heads))
                      (rw q at (kept.sent ∙ put_same p.sent l.sent (λ some. (m.new (sym c.picked ∙ (f.sent some).1)).are)));
                }

          -- What is decided and put is what the call promises, once what is asked for is put.
          pub asked_called : (room : ℕ) → r.need ≡ room
              → ((need₀ : List ℕ) → length need₀ ≡ room → answer ≡ decided s d bits probes (put_rooms (lists_of (buffers_of heads₀ need₀ have₀ list₀) l)))
              → AskedCalled bits probes s t b k l (changed l last_sent sent) a room heads₀ have₀ list₀ heads₁ have₁ list₁ answer
          asked_called room there is =
              record {
                fits =
                    λ some.
                    let z = f.need (λ e. some (ap (λ (x : Puts). x.need) (sym q) ∙ e)) in
                    (ap (λ (x : Puts). x.need) (sym q) ∙ z.0 ∙ c.need, (omega (arith, z.1, c.need), omega (arith, z.0, c.need, f.need_room)));
                called =
                    λ w counted need₀ need₁ long last.
                    plan_called bits probes t w s l b k a d c counted good _ _ last_sent sent _ (put_finished _ need₀ need₁ last (is need₀ long));
              }

-- ---- what is asked for

-- nothing
pub nothing_counted : {l : List ℕ} {theirs : Maybe (List ℕ)} → l ≡ [] → NeedCounted l theirs (record { heads = 0; count = 0; heard = true })
unfolding every
nothing_counted e = record { within = omega arith; all = λ few. rw e; many = λ more. absurd (omega arith); each = λ few. rw e }

pub nothing_put : {l : List ℕ} → l ≡ [] → (count : ℕ) (buffer : List ℕ) → buffer ≡ list_put count l buffer
unfolding unless_none hashes_bytes
nothing_put e count buffer = split (eqb count 0) (λ z. rw (e, z)) (λ z. rw (e, z))

module _ {their_heads waiting refs l : List ℕ} {theirs : Maybe (List ℕ)} {a : Asked} (found : NeedFound their_heads waiting refs l theirs a) {p : Puts} (r : Result PlanAnswer Refusal)
    (q : p ≡ puts_of r) {room : ℕ}
    (fits : ((puts_of r).need ≡ 0 → ⊥) → ((puts_of r).need ≡ a.count) × ((a.count ≤ sizes.hashes) × (sizes.hash * a.count ≤ room))) where
  put_fits : (p.need ≡ 0 → ⊥) → (p.need ≡ a.count) × ((a.count ≤ sizes.hashes) × (sizes.hash * a.count ≤ room))
  put_fits = rw q fits

  -- what is put of it has room
  pub need_ready : (p.need ≡ 0 → ⊥) → FoundRefs their_heads 0 a.heads waiting refs p.need × (sizes.hash * p.need ≤ room)
  need_ready some =
      let z = put_fits some in
      (rw z.0 found.found, omega (arith, z.0, z.1.1))

  -- and it is all of it, or nothing
  pub need_put : (need₀ : List ℕ) {need₁ : List ℕ} → need₁ ≡ list_put p.need (found_by their_heads 0 a.heads waiting refs p.need) need₀
      → need₁ ≡ list_put (puts_of r).need l need₀
  unfolding unless_none
  need_put need₀ put =
      split (eqb p.need 0)
      (λ e. rw (← q, e) (rw e at put))
      (λ e.
      let z = put_fits (eqb-false p.need 0 e) in
      let all : found_by their_heads 0 a.heads waiting refs p.need ≡ l = rw z.0 (found.are z.1.0) in
      rw (← q, e) (rw (e, all) at put))
