-- The parts of a plan as marks and numbers: what each asks for follows from the tests before planning, and together they are the plan. Assumes nothing.
use Prim.Native.Nat.{ℕ, ◌+◌, ◌*◌, ◌≤◌}
use mathlib.Core.Bool.{Bool, true, false, cond, not, ◌&&◌, ◌||◌}
use mathlib.Core.List.{List, [], ◌∷◌}
use mathlib.Core.Path.{◌≡◌, refl, sym, ap, ◌∙◌}
use native.Mathlib.Omega.{arith}
use borrow.Author.Tests.{ne_eqb}
use lib.Dec.{eqb}
use lib.ListN.{length}
use Rattle.plan_decide.specs.declared.decide.Draft.{Draft}
use Rattle.table_graph.proofs.GraphMarks.{picked_heads, heads_many_lem, many_rows}
use Rattle.table_graph.proofs.PickLaws.{picked_count}
use Rattle.table_graph.specs.Graph.{needed, heads}
use Rattle.table_graph.specs.Internal.Marks.{Marks, marked, picked}
use Rattle.table_index.specs.Index.{Indexed}
use Rattle.session_check.proofs.GoodSessions.{session_tests, session_parts, good_within}
use Rattle.session_check.specs.SessionGood.{heard_good, haves_good, session_good}
use Rattle.hash_lists.specs.Lists.{same}
use Rattle.hash_order.specs.Order.{member, every, ascend}
use Rattle.plan_parts.proofs.HeardLaws.{heard_there}
use Rattle.plan_parts.specs.Internal.PlanParts.{HaveCounted, BodyChosen, SentBeside, FreshMarked}
use Rattle.plan_parts.specs.declared.body.BodyCount.{BodyCount}
use Rattle.plan_parts.specs.declared.need.Asked.{Asked}
use Rattle.rules.proofs.Cases.{true_false}
use Rattle.rules.proofs.Hash.{length_hashes_at}
use Rattle.rules.specs.Hash.{hashes_at}
use Rattle.rules.specs.Sizes.{sizes}
use Rattle.send.proofs.SelectLaws.{less_new}
use Rattle.send.specs.Internal.Chosen.{chosen_by, SentRows}
use Rattle.session.proofs.PlanLaws.{body_cases, planned_held, list_few}
use Rattle.session.specs.Plan.{Body, heard_as, list_of, unknown_sync, body_heard, body_of, empty, silence, sent_after, is_fine}
use Rattle.session_state.specs.Session.{State}
use Rattle.session_state.specs.Value.{Lent, heard_count, heard_hashes, heard_haves, state_of}
use Rattle.session_state.specs.declared.session.Session.{Session}
use Rattle.table.proofs.TableLaws.{length_rows_at}
use Rattle.table.specs.TableBytes.{rows_at}
use Rattle.table.specs.Table.{Row, rows as hashes, held}
use Rattle.plan_count.specs.Internal.PlanCount.{BodyReady, carried_body, BodyCounted, BodyGoes, PickReady, quiet_with, PlanMarked, DraftCounted}
use Rattle.plan_count.specs.declared.carried.Carried.{Carried}
use Rattle.std.specs.Prelude.{Result, Ok, Err}
use Rattle.std.specs.Result.{is_ok}

-- ---- what is carried

-- the document is every row's hash, and a list has none that was sent
body_whole : (t : List Row) (s : State) → (body_of t s).document ≡ true → (body_of t s).hashes ≡ hashes t
body_whole t s =
    body_cases t s (λ b. b.document ≡ true → b.hashes ≡ hashes t)
    (record {
      nothing = λ e. absurd (true_false false e refl);
      document = λ v e. refl;
      list = λ haves need p q e. absurd (true_false false e refl);
    })

pub body_unsent : (t : List Row) (s : State) → (body_of t s).document ≡ false → (h : ℕ) → member h (body_of t s).hashes ≡ true → member h s.sent_hashes ≡ false
unfolding member
body_unsent t s =
    body_cases t s (λ b. b.document ≡ false → (h : ℕ) → member h b.hashes ≡ true → member h s.sent_hashes ≡ false)
    (record {
      nothing = λ e h m. absurd (true_false false m refl);
      document = λ v e. absurd (true_false true refl e);
      list = λ haves need p q e h m. less_new t haves need s.sent_hashes h m;
    })

module _ {table index : List ℕ} {n : ℕ} {s : Session} {their_need haves bytes sent : List ℕ} (r : BodyReady table index n s their_need haves bytes sent)
    {headless : Bool} (none : (theirs : List ℕ) → headless ≡ heard_as [] (heard_hashes theirs s.their_heads)) {marks needs : List Bool} {b : BodyCount}
    (chosen : BodyChosen (cond s.peer_read_only (list_of [])
    (body_heard (rows_at table 0 n) s.supports_v2 headless (heard_haves bytes haves s.their_have) (heard_hashes their_need s.their_need)
    (hashes_at sent 0 s.sent_hashes))) (rows_at table 0 n) marks (hashes_at their_need 0 (heard_count s.their_need)) needs b) where
  abbrev t : List Row
  t = rows_at table 0 n

  -- the peer is heard to have no heads, or isn't
  body_carried : (their_heads : List ℕ)
      → BodyChosen (carried_body t s their_heads their_need haves bytes sent) t marks (hashes_at their_need 0 (heard_count s.their_need)) needs b
  unfolding body_of
  body_carried their_heads = rw (none their_heads) at chosen

  module _ (k : ℕ) (e : k ≡ heard_count s.their_need) where
    -- a body's hashes are rows
    pub chosen_held : every (held t) (chosen_by t marks (hashes_at their_need 0 k) needs) ≡ true
    chosen_held =
        rw (e, (body_carried []).hashes.list) (planned_held t r.rows.rows.good _)

    pub chosen_beside : {past : List Bool} → SentRows t n (hashes_at sent 0 s.sent_hashes) past
        → SentBeside t n b.document (chosen_by t marks (hashes_at their_need 0 k) needs) (hashes_at sent 0 s.sent_hashes) past
    chosen_beside p =
        let c = body_carried [] in
        record {
          those = p;
          whole = λ d. rw (e, c.hashes.list) (body_whole t _ (sym c.document ∙ d));
          list = λ d. rw (e, c.hashes.list) (body_unsent t _ (sym c.document ∙ d));
        }

    pub need_there_lem : sizes.hash * k ≤ length their_need
    need_there_lem = omega (arith, heard_there their_need s.their_need k e r.need)

    pub body_counted : {fresh : List Bool} {total : ℕ} → n ≤ length marks → heard_count s.their_need ≤ length needs
        → FreshMarked t n (chosen_by t marks (hashes_at their_need 0 k) needs) (hashes_at sent 0 s.sent_hashes) fresh total
        → (their_heads : List ℕ)
        → BodyCounted t n (carried_body t s their_heads their_need haves bytes sent) (hashes_at their_need 0 (heard_count s.their_need))
        (hashes_at sent 0 s.sent_hashes) marks needs fresh (record { body = b; picked = Ok tt; sent = total })
    body_counted a c f their_heads =
        record {
          row_long = a;
          need_long = omega (arith, length_hashes_at their_need 0 (heard_count s.their_need));
          body = body_carried their_heads;
          new = rw (e, (body_carried their_heads).hashes.list) at f;
          unpicked = refl;
        }

-- ---- silence

pub quiet_is : (s : Session) (last_sent their_heads ours : List ℕ) (nothing told equal r : Bool)
    → told ≡ (same (hashes_at last_sent 0 s.last_sent_heads) ours && s.have_responded)
    → equal ≡ heard_as ours (heard_hashes their_heads s.their_heads)
    → r ≡ (told && (((equal || s.read_only) && nothing) || s.in_flight))
    → r ≡ quiet_with s last_sent their_heads ours nothing
unfolding quiet_with
quiet_is s last_sent their_heads ours nothing told equal r t e q = rw (t, e) at q

-- a pick that is accepted is fine
pub ok_is_fine : (r : Result Unit ℕ) → is_ok r ≡ is_fine r
ok_is_fine (Ok tt) = refl
ok_is_fine (Err place) = refl

-- none is an empty list
none_empty : (n : ℕ) (l : List ℕ) → n ≡ length l → eqb n 0 ≡ empty l
none_empty n [] e = rw e
none_empty n (h ∷ hs) e = ne_eqb n 0 (λ z. omega arith)

-- ---- all of it

module _ {table index : List ℕ} {n : ℕ} (s : Session) (l : Lent) (rows : Indexed table index n) (good : session_good s l ≡ true) where
  pub have_good_lem : haves_good l.bytes l.haves s.their_have ≡ true
  have_good_lem = (session_tests s l good).their_have

  pub heads_good : heard_good l.their_heads s.their_heads ≡ true
  heads_good = (session_tests s l good).their_heads

  pub shared_there : sizes.hash * s.shared_heads ≤ length l.shared
  shared_there = (session_parts s l good).shared.there

  pub last_there : sizes.hash * s.last_sent_heads ≤ length l.last_sent
  last_there = (session_parts s l good).last_sent.there

  pub body_ready : BodyReady table index n s l.their_need l.haves l.bytes l.sent
  body_ready =
      let q = session_tests s l good in
      let p = session_parts s l good in
      record { rows = rows; need = q.their_need; have = q.their_have; there = p.sent.there; few = p.sent.few; ascending = p.sent.ascending }

  -- what was counted of the lists that a body is chosen from is that body's
  pub counted_whole : {marks needs fresh : List Bool} {k : Carried}
      → ((their_heads : List ℕ) → BodyCounted (rows_at table 0 n) n (carried_body (rows_at table 0 n) s their_heads l.their_need l.haves l.bytes l.sent)
      (hashes_at l.their_need 0 (heard_count s.their_need)) (hashes_at l.sent 0 s.sent_hashes) marks needs fresh k)
      → BodyCounted (rows_at table 0 n) n (body_of (rows_at table 0 n) (state_of s l)) (hashes_at l.their_need 0 (heard_count s.their_need))
      (hashes_at l.sent 0 s.sent_hashes) marks needs fresh k
  unfolding body_of
  counted_whole f = f l.their_heads

  pub body_few : length (body_of (rows_at table 0 n) (state_of s l)).hashes ≤ sizes.hashes_to_send
  body_few = list_few (rows_at table 0 n) (state_of s l) (rw (length_rows_at table 0 n) rows.rows.few) (good_within s l good).their_need

  pub sent_few_lem : length (hashes_at l.sent 0 s.sent_hashes) ≤ sizes.sent_hashes
  sent_few_lem = rw (length_hashes_at l.sent 0 s.sent_hashes) (session_parts s l good).sent.few

  pub pick_ready : {pickLong row_long need_long fresh_long : ℕ} (asked : ℕ) → asked ≡ heard_count s.their_need → pickLong ≤ sizes.hashes * sizes.hash
      → n ≤ row_long → heard_count s.their_need ≤ need_long → n ≤ fresh_long
      → PickReady table index n pickLong l.sent s.sent_hashes asked row_long need_long fresh_long
  pick_ready asked e few a b c =
      let r = body_ready in
      record {
        rows = rows;
        few = few;
        there = r.there;
        sent_few = r.few;
        ascending = r.ascending;
        row_room = a;
        need_room = omega (arith, e, b);
        fresh_room = c;
      }

  module _ {headMarks haveMarks marks needs fresh : List Bool} (a : Asked) {count entries : ℕ} {k : Carried} {unknown silent nothing : Bool} {b : Body}
      {c : Result Unit ℕ} (long : n ≤ length headMarks) (those : Marks n headMarks (λ i. not (needed (rows_at table 0 n) i))) (many : count ≡ marked n headMarks)
      (given : HaveCounted (rows_at table 0 n) n a.heard (hashes_at l.shared 0 s.shared_heads) haveMarks entries)
      (u : unknown ≡ unknown_sync (rows_at table 0 n) (heard_haves l.bytes l.haves s.their_have))
      (goes : BodyGoes (rows_at table 0 n) n b c (hashes_at l.their_need 0 (heard_count s.their_need)) (hashes_at l.sent 0 s.sent_hashes) marks
      needs fresh k) (some : length b.hashes ≤ sizes.hashes_to_send) (small : k.sent ≤ sizes.sent_hashes + sizes.rows) (no : nothing ≡ (is_fine k.picked && eqb k.body.hashes 0))
      (q : silent ≡ quiet_with s l.last_sent l.their_heads (ascend (picked (hashes (rows_at table 0 n)) headMarks)) nothing) where
    abbrev drawn : Draft
    drawn =
        record {
          heads = count;
          need = a.count;
          unknown = unknown;
          gives = a.heard;
          entries = entries;
          body = k.body;
          picked = k.picked;
          silent = silent;
          sent = k.sent;
        }

    pub plan_marked : PlanMarked (rows_at table 0 n) n (state_of s l) b c (hashes_at l.their_need 0 (heard_count s.their_need)) headMarks haveMarks marks
        needs fresh drawn
    plan_marked =
        record {
          head_long = long;
          heads = picked_heads table n headMarks those;
          heads_many = many;
          have = given;
          row_long = goes.row_long;
          need_long = goes.need_long;
          fresh_long = goes.fresh_long;
          few = some;
          small = small;
          list = goes.list;
          new = goes.new;
        }

    pub draft_counted : DraftCounted (rows_at table 0 n) (state_of s l) b c a drawn
    unfolding silence quiet_with sent_after
    draft_counted =
        let t : List Row = rows_at table 0 n in
        let ours : ascend (picked (hashes t) headMarks) ≡ heads t = picked_heads table n headMarks those in
        let none : nothing ≡ (is_fine c && empty b.hashes) =
        no ∙ rw (goes.picked, none_empty k.body.hashes b.hashes goes.hashes) in
        record {
          heads = many ∙ sym (heads_many_lem table n headMarks those rows.rows.good);
          need = refl;
          unknown = u;
          gives = refl;
          entries = λ e. given.many e ∙ sym (picked_count (hashes t) haveMarks n (many_rows table n)) ∙ ap length (given.those e);
          none = given.none;
          document = goes.document;
          hashes = goes.hashes;
          picked = goes.picked;
          silent = rw (ours, none) at q;
          sent = goes.many;
        }
