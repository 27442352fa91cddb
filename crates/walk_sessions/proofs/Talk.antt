-- Two fresh sessions state the walk: their sides stand before round one, each round that is granted keeps them, and its tables, waiting rows and reply are
-- the walk's. That B's table stays a part of A is theorem 1's. Assumes nothing.
use Prim.Native.Nat.{ℕ, zero, suc, ◌+◌, ◌/◌, ◌≤◌, ◌<◌}
use mathlib.Core.Bool.{true, false}
use mathlib.Core.List.{List, [], ◌++◌}
use mathlib.Core.Path.{◌≡◌, refl, sym, ap, ap₂, subst, ◌∙◌}
use native.Mathlib.Nat.{le_trans}
use native.Mathlib.Omega.{arith}
use lib.ListN.{length}
use Rattle.bloom.specs.Have.{Have}
use Rattle.bloom.specs.declared.setting.Setting.{Setting}
use Rattle.table_graph.proofs.BelowLaws.{beyond_few}
use Rattle.table_graph.specs.Graph.{heads, beyond}
use Rattle.session.proofs.GoodLaws.{fresh_good}
use Rattle.session.specs.GoodState.{SoundTable, GoodState}
use Rattle.session.specs.Receive.{Said, Received, left, shared_after, received, receive_bytes}
use Rattle.message.specs.Message.{counted, message_bytes}
use Rattle.message.specs.declared.version.MessageVersion.{MessageVersion}
use Rattle.waiting_missing.specs.Missing.{missing}
use Rattle.hash_order.proofs.OrderLaws.{member_none}
use Rattle.rules.specs.Sizes.{sizes}
use Rattle.send.specs.ToSend.{to_send_less}
use Rattle.session.specs.Plan.{Body, Plan, Planned, document_part, empty, haves_for, body_of, plan_of, planned, after}
use Rattle.session_state.specs.Session.{State}
use Rattle.table.specs.Table.{Row}
use Rattle.waiting.specs.Waiting.{Waiting}
use Rattle.walk.proofs.Loaded.{loads_more}
use Rattle.walk.proofs.Theorem1.{theorem_1}
use Rattle.walk.specs.Round.{Part, Loads, trim}
use Rattle.walk.specs.Walk.{At, accepted, heard_in}
use Rattle.wire.specs.Item.{prefixed_bytes}
use Rattle.walk_sessions.specs.Passing.{Passes, plan_passing, AcceptedIn, Replies, WalkPassed}
use Rattle.walk_sessions.specs.Talk.{bytes_for, goes, Pair, asked, to_a, answered, to_b, pair_at, carried, Reached, PassAccepted, Granted, Underway, Tables, Agrees, Statement2, Theorem2, Sessions01, SessionsPicked}
use Rattle.walk_sessions.proofs.Answers.{Answers, taking, mid_good, answers}
use Rattle.walk_sessions.proofs.Asks.{Asks, asks}
use Rattle.walk_sessions.proofs.Passing.{body_passed, check_passed, passing_is, passed_as, may_go, passed_replies, AcceptedOf, offer_accepted, passed_round, passed_walks}
use Rattle.walk_sessions.proofs.Returns.{Returns, returns}
use Rattle.walk_sessions.proofs.Sides.{Fixed, nothing, SideA, SideB, Going}
use Rattle.walk_sessions.proofs.Small.{most_words}
use Rattle.walk_sessions.proofs.Waits.{waits_none, loads_longer, loads_waits, part_few}
use Rattle.session.specs.Written.{Host, list_chunks, chunks_for, message_for, heard_said}
use Rattle.std.specs.Prelude.{Ok}

module _ (setA set_b : ℕ → Setting) (pass : ℕ → Passes) (A : List Row) (B : ℕ → List Row) (W U : ℕ → List Waiting) (hosts : ℕ → Host) (tables : Tables setA set_b pass A B W U hosts) where
  table_sound : SoundTable A
  table_sound = record { good = tables.good; are = tables.hashes; few = tables.limit }

  fixed_a : (k : ℕ) → Fixed (setA k).bits (setA k).probes A
  fixed_a k = record { sound = table_sound; setting = tables.setting_a k }

  fixed_b : (k : ℕ) → Fixed (set_b k).bits (set_b k).probes A
  fixed_b k = record { sound = table_sound; setting = tables.setting_b k }

  abbrev pair : ℕ → Pair setA set_b pass A B W U hosts
  pair k = pair_at setA set_b pass A B W U hosts k

  abbrev last_sync : ℕ → List ℕ
  last_sync j = (pair j).at_b.shared_heads

  abbrev place : ℕ → List ℕ → List ℕ → At
  place k sent named = record { table = B k; waits = W k; sent = sent; named = named }

  abbrev Walked : ℕ → At → Type 0
  Walked = WalkPassed pass (λ j. (set_b j).bits) (λ j. (set_b j).probes) last_sync A (B 0)

  -- What stands before round k: a walk came here, and both sides are as they were.
  pub record Standing (k : ℕ) : Type 0 where
    -- the walk's T
    pub sent : List ℕ
    -- all that its replies named, which is all that the messages carried
    pub named : List ℕ
    pub carries : named ≡ carried setA set_b pass A B W U hosts k
    -- a walk whose last-sync hashes are B's shared heads came to B's tables
    pub walk : Walked k (place k sent named)
    pub side_a : SideA A k sent (pair k).at_a
    pub side_b : SideB A (B k) (W k) k (pair k).at_b

  first_walk : Walked 0 (place 0 [] [])
  first_walk = rw tables.nothing WalkPassed.start

  first_a : SideA A 0 [] (pair 0).at_a
  unfolding pair_at
  first_a =
      record {
        good = fresh_good;
        writes = refl;
        keeps = refl;
        first = λ e. refl;
        sent = λ h. refl;
        own = λ h m. absurd (member_none h m);
      }

  first_b : SideB A (B 0) (W 0) 0 (pair 0).at_b
  unfolding pair_at
  first_b =
      record {
        part = tables.part;
        waits = rw tables.nothing (waits_none A);
        good = fresh_good;
        writes = refl;
        peer = refl;
        keeps = refl;
        lands = refl;
        sent = refl;
        shared = λ h m. absurd (member_none h m);
        heard_so = nothing refl refl refl;
      }

  pub start : Standing 0
  unfolding carried
  start =
      record {
        sent = [];
        named = [];
        carries = refl;
        walk = first_walk;
        side_a = first_a;
        side_b = first_b;
      }

  pub start_sent : start.sent ≡ []
  unfolding start
  start_sent = refl

  -- ---- a round

  module _ (k : ℕ) (st : Standing k) (going : Going A (B k) k) where
    abbrev a : State
    a = (pair k).at_a

    abbrev b : State
    b = (pair k).at_b

    abbrev need : List ℕ
    need = missing (B k) (W k) (heard_in k A)

    abbrev haves : List Have
    haves = haves_for (set_b k).bits (set_b k).probes (B k) need (heard_in k A) b.shared_heads

    abbrev ask : Plan
    ask = plan_of (set_b k).bits (set_b k).probes (B k) (W k) b (body_of (B k) b)

    abbrev m : Said
    m = heard_said ask

    -- B speaks
    asking : Asks (set_b k).bits (set_b k).probes A (B k) (W k) k b
    asking = asks (set_b k).bits (set_b k).probes A (B k) (W k) k b (fixed_b k) going st.side_b

    asked_is : asked setA set_b pass A B W U hosts k (pair k) ≡ Planned.says ask (planned (B k) b (body_of (B k) b))
    unfolding asked
    asked_is = asking.says

    -- A's session when it has heard B
    abbrev mid : State
    mid = received (length A) A a m

    mid_is_good : GoodState mid
    mid_is_good =
        mid_good (setA k).bits (setA k).probes A (B k) (U k) k st.sent a need haves m (fixed_a k) st.side_b.part going st.side_a
        asking.known
        asking.hears

    to_a_is : to_a setA set_b pass A B W U hosts k (pair k) ≡ Received.took mid
    unfolding to_a bytes_for
    to_a_is =
        ap (λ (p : Planned). receive_bytes true (length A) A a (bytes_for (hosts k) p)) asked_is
        ∙ asking.crosses (hosts k) (length A) A a (omega arith)
        ∙ taking (setA k).bits (setA k).probes A (B k) (U k) k st.sent a need haves m (fixed_a k) st.side_b.part going st.side_a
        asking.known
        asking.hears

    -- what goes, and A's answer
    abbrev body : Body
    body = body_passed A mid (pass k)

    abbrev reply : Plan
    reply = plan_of (setA k).bits (setA k).probes A (U k) mid body

    -- the walk's offer
    abbrev offer : List ℕ
    offer = to_send_less A haves need (trim A (heads (B k)) st.sent)

    -- a pick that the check accepts of the walk's offer is accepted in A's session, where that goes by list
    pub accepts_offer : empty (heads (B k)) ≡ false → length offer ≤ length A / document_part → AcceptedOf A (pass k) offer
        → PassAccepted setA set_b pass A B W U hosts k
    accepts_offer found short fine =
        let whole : Answers (setA k).bits (setA k).probes A (B k) (U k) k st.sent a need haves m (body_of A mid) (Ok tt) =
        answers (setA k).bits (setA k).probes A (B k) (U k) k st.sent a need haves m (fixed_a k) st.side_b.part going st.side_a
        asking.known asking.hears (body_of A mid) (Ok tt) (may_go A mid Passes.all table_sound mid_is_good tt)
        in
        let list : (body_of A mid).document ≡ false = whole.short found short in
        subst (λ (r : Received). AcceptedIn A (left r a) (pass k)) (sym to_a_is) (offer_accepted A mid (pass k) offer list (whole.list list) fine)

    module _ (accepts : PassAccepted setA set_b pass A B W U hosts k) where
      accepted_there : AcceptedIn A mid (pass k)
      accepted_there = subst (λ (r : Received). AcceptedIn A (left r a) (pass k)) to_a_is accepts

      answering : Answers (setA k).bits (setA k).probes A (B k) (U k) k st.sent a need haves m body (check_passed A mid (pass k))
      answering =
          answers (setA k).bits (setA k).probes A (B k) (U k) k st.sent a need haves m (fixed_a k) st.side_b.part going st.side_a
          asking.known
          asking.hears
          body
          (check_passed A mid (pass k))
          (may_go A mid (pass k) table_sound mid_is_good accepted_there)

      answered_is : answered setA set_b pass A B W U hosts k (pair k) ≡ Planned.says reply (planned A mid body)
      unfolding answered
      answered_is =
          ap (λ (r : Received). plan_passing (pass k) (setA k).bits (setA k).probes A (U k) (left r a)) to_a_is
          ∙ passing_is (pass k) (setA k).bits (setA k).probes A (U k) mid
          ∙ answering.says

      document_is : (body_of A mid).document ≡ reply.body.document
      document_is = sym (passed_as A mid (pass k)) ∙ ap (λ (x : Body). x.document) (sym answering.body_is)

      hashes_are : reply.body.hashes ≡ body.hashes
      hashes_are = ap (λ (x : Body). x.hashes) answering.body_is

      by_list : reply.body.document ≡ false → Replies A (pass k) offer reply.body.hashes
      by_list e =
          subst (Replies A (pass k) offer) (sym hashes_are)
          (passed_replies A mid (pass k) offer accepted_there (document_is ∙ e) (answering.list (document_is ∙ e)))

      pub agrees : Agrees setA set_b pass A B W U hosts k st.sent
      agrees =
          record {
            said = ask;
            next = planned (B k) b (body_of (B k) b);
            speaks = asked_is;
            heads_agree = asking.heads_are;
            need_agrees = asking.need_are;
            haves_agree = asking.haves_are;
            holds = st.side_b.shared;
            carries_none = asking.body_is;
            heard = mid;
            hears = to_a_is;
            reply = reply;
            next' = planned A mid body;
            replies = answered_is;
            by_list = λ e.
                subst (λ (l : List ℕ). Replies A (pass k) l reply.body.hashes)
                (ap₂ (λ (v : List Have) (n : List ℕ). to_send_less A v n (trim A (heads (B k)) st.sent))
                (sym asking.haves_are)
                (sym asking.need_are))
                (by_list e);
          }

      goes_is : goes (answered setA set_b pass A B W U hosts k (pair k)) ≡ reply.body.hashes
      unfolding goes
      goes_is = ap goes answered_is

      pub reply_heads : (heard_said reply).heads ≡ heads A
      reply_heads = answering.hears.heads_are

      -- ---- what grants it, in the walk's words

      -- B has heads, the offer is no more than its part of the rows, the reply's chunks leave room, and it loads
      module _ (found : empty (heads (B k)) ≡ false) (short : length offer ≤ length A / document_part)
          (l : List ℕ) (names : Replies A (pass k) offer reply.body.hashes → reply.body.hashes ≡ l)
          (room : (v : MessageVersion) → most_words + length (counted prefixed_bytes (list_chunks (hosts k) v l)) ≤ sizes.message) where
        listed : reply.body.document ≡ false
        listed = sym document_is ∙ answering.short found short

        named_so : reply.body.hashes ≡ l
        named_so = names (by_list listed)

        fits : length (bytes_for (hosts k) (answered setA set_b pass A B W U hosts k (pair k))) ≤ sizes.message
        unfolding bytes_for chunks_for
        fits = rw answered_is (answering.fits (hosts k) (rw (listed, named_so) (room reply.version)))

        pub round_granted : Loads A (B k) (W k) l (B (suc k)) (W (suc k)) → length (W (suc k)) ≤ sizes.waiting_rows
            → Granted setA set_b pass A B W U hosts k
        round_granted loads few =
            record {
              accepts = accepts;
              list =
                  λ q s e.
                  let both : Planned.says q s ≡ Planned.says reply (planned A mid body) = sym e ∙ answered_is in
                  let is : q ≡ reply = cc in
                  rw is listed;
              small = fits;
              loads = rw (goes_is, named_so) loads;
              few = few;
            }

    -- ---- and what is granted in it

    module _ (granted : Granted setA set_b pass A B W U hosts k) where
      abbrev accepts : PassAccepted setA set_b pass A B W U hosts k
      accepts = granted.accepts

      list : reply.body.document ≡ false
      list = granted.list reply (planned A mid body) (answered_is accepts)

      loaded : Loads A (B k) (W k) reply.body.hashes (B (suc k)) (W (suc k))
      loaded = rw (goes_is accepts) at granted.loads

      abbrev sent' : List ℕ
      sent' = trim A (heads (B k)) st.sent ++ reply.body.hashes

      abbrev named' : List ℕ
      named' = st.named ++ reply.body.hashes

      -- B's filter is over no more rows than A's
      set : accepted (set_b k).bits (set_b k).probes (B k) (last_sync k) ≡ true
      set =
          tables.setting_b k (length (beyond (B k) (last_sync k)))
          (le_trans (beyond_few (B k) (last_sync k)) (part_few A table_sound (B k) st.side_b.part))

      walked : Walked (suc k) (place (suc k) sent' named')
      walked =
          WalkPassed.round haves reply.body.hashes st.walk
          (passed_round (pass k) (set_b k).bits (set_b k).probes A (heard_in k A) (last_sync k) (place k st.sent st.named) haves reply.body.hashes
          (place (suc k) sent' named')
          st.side_b.shared
          set
          refl
          (by_list accepts list)
          loaded
          refl
          refl)

      part' : Part A (B (suc k))
      part' =
          (theorem_1 A (B 0) tables.good tables.part).part (suc k) _
          (passed_walks.walk pass (λ j. (set_b j).bits) (λ j. (set_b j).probes) last_sync A (B 0) tables.good tables.fits (suc k) _ walked)

      -- B hears the answer
      returning : Returns A (B k) (W k) (B (suc k)) (W (suc k)) k b (heard_said reply)
      returning =
          returns A (B k) (W k) (B (suc k)) (W (suc k)) k b (heard_said reply) (setA k).bits (setA k).probes (fixed_a k) st.side_b
          asking.good asking.sent part'
          (loads_waits loaded)
          (loads_more loaded)
          (answering accepts).hears

      abbrev end : State
      end = received (length (B k)) (B (suc k)) (planned (B k) b (body_of (B k) b)) (heard_said reply)

      small : length (message_bytes (message_for (hosts k) reply)) ≤ sizes.message
      unfolding bytes_for
      small = rw (answered_is accepts) at granted.small

      pub to_b_is : to_b setA set_b pass A B W U hosts k (pair k) ≡ Received.took end
      unfolding to_b bytes_for
      to_b_is =
          ap₂ (λ (p q : Planned). receive_bytes true (length (B k)) (B (suc k)) (after p b) (bytes_for (hosts k) q)) asked_is (answered_is accepts)
          ∙ (answering accepts).crosses (hosts k) small (length (B k)) (B (suc k)) (planned (B k) b (body_of (B k) b)) (loads_longer loaded)
          ∙ returning.takes

      a_is : (pair (suc k)).at_a ≡ planned A mid body
      unfolding pair_at
      a_is = ap (λ (p : Planned). after p (left (to_a setA set_b pass A B W U hosts k (pair k)) a)) (answered_is accepts)

      b_is : (pair (suc k)).at_b ≡ end
      unfolding pair_at
      b_is = ap (λ (r : Received). left r (after (asked setA set_b pass A B W U hosts k (pair k)) b)) to_b_is

      asks_none : goes (asked setA set_b pass A B W U hosts k (pair k)) ≡ []
      unfolding goes
      asks_none = ap goes asked_is ∙ ap (λ (x : Body). x.hashes) asking.body_is

      carries' : named' ≡ carried setA set_b pass A B W U hosts (suc k)
      unfolding carried
      carries' = ap₂ (λ (x y : List ℕ). x ++ y) st.carries (sym (ap₂ (λ (x y : List ℕ). x ++ y) asks_none (goes_is accepts)))

      pub next : Standing (suc k)
      next =
          record {
            sent = sent';
            named = named';
            carries = carries';
            walk = walked;
            side_a = rw (a_is, hashes_are accepts) ((answering accepts).next (document_is accepts ∙ list));
            side_b = rw b_is returning.next;
          }

      -- T afterwards
      pub next_sent : (l : List ℕ) → (Replies A (pass k) offer reply.body.hashes → reply.body.hashes ≡ l)
          → next.sent ≡ trim A (heads (B k)) st.sent ++ l
      unfolding next
      next_sent l names = ap (λ (x : List ℕ). trim A (heads (B k)) st.sent ++ x) (names (by_list accepts list))

      -- B's last-sync hashes afterwards
      pub next_shared : last_sync (suc k) ≡ shared_after (length (B k)) (B (suc k)) (planned (B k) b (body_of (B k) b)) (heard_said reply)
      unfolding received
      next_shared = ap (λ (s : State). s.shared_heads) b_is

  -- ---- all rounds

  pub standing : (k : ℕ) → ((j : ℕ) → j < k → Going A (B j) j) → ((j : ℕ) → j < k → Granted setA set_b pass A B W U hosts j) → Standing k
  standing zero f g = start
  standing (suc k) f g = next k (standing k (λ j h. f j (omega arith)) (λ j h. g j (omega arith))) (f k (omega arith)) (g k (omega arith))

  -- a round that is reached is still to be talked
  pub reached_going : (k : ℕ) → Reached setA set_b pass A B W U hosts k → Going A (B k) k
  reached_going zero f h = absurd (omega arith)
  reached_going (suc k) f h = f k (omega arith)

  pub inside_standing : (k : ℕ) → Underway setA set_b pass A B W U hosts k → Standing k
  inside_standing k i = standing k (λ j h. reached_going j (λ l e. i.reached l (omega arith))) i.granted

  pub statement_2 : Statement2 setA set_b pass A B W U hosts
  statement_2 =
      record {
        stated = λ k i accepts.
            let st = inside_standing k i in
            record {
              at = place k st.sent st.named;
              walk = st.walk;
              table = refl;
              waits = refl;
              replies = st.carries;
              round = agrees k st (reached_going k i.reached) accepts;
            };
        taken = λ k i g. (_, to_b_is k (inside_standing k i) (reached_going k i.reached) g);
      }

-- Theorem 2.
pub theorem_2 : Theorem2
theorem_2 setA set_b pass A B W U hosts tables = statement_2 setA set_b pass A B W U hosts tables

pub sessions_01 : Sessions01
sessions_01 setA set_b A B W U hosts tables k i =
    let x = (theorem_2 setA set_b (λ j. Passes.all) A B W U hosts tables).stated k i tt in
    (x, passed_walks.whole (λ j. (set_b j).bits) (λ j. (set_b j).probes) _ A (B 0) k x.at x.walk)

pub sessions_picked_lem : SessionsPicked
sessions_picked_lem setA set_b rowSizes budget pick A B W U hosts tables k i accepts =
    let x = (theorem_2 setA set_b (λ j. Passes.picked rowSizes (budget j) (pick j)) A B W U hosts tables).stated k i accepts in
    (x, passed_walks.picks (λ j. (set_b j).bits) (λ j. (set_b j).probes) budget rowSizes pick _ A (B 0) k x.at x.walk)
