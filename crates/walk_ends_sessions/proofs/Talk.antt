-- Two fresh sessions with news at both ends are the ends of walk_ends: both sides stand before the first message, and each message that is granted keeps them and is a
-- turn of the ends. That the tables stay parts of the joint set is M-111's. Assumes nothing.
use Prim.Native.Nat.{ℕ, zero, suc, ◌≤◌, ◌<◌}
use mathlib.Core.Bool.{true, false}
use mathlib.Core.List.{List, [], ◌++◌}
use mathlib.Core.Option.{Option, none, some}
use mathlib.Core.Path.{◌≡◌, refl, sym, ap, ap₂, subst, ◌∙◌}
use native.Mathlib.Nat.{le_trans}
use native.Mathlib.Omega.{arith}
use lib.ListN.{length}
use Rattle.bloom.specs.Have.{Have}
use Rattle.bloom.specs.declared.setting.Setting.{Setting}
use Rattle.hash_order.proofs.KeepLaws.{every_member}
use Rattle.hash_order.proofs.OrderLaws.{member_none}
use Rattle.hash_order.specs.Order.{member, every}
use Rattle.message.specs.Message.{message_bytes}
use Rattle.rules.proofs.Cases.{split}
use Rattle.rules.specs.Sizes.{sizes}
use Rattle.send_members.proofs.SLaws.{last_syncs_one}
use Rattle.send_members.specs.Internal.Members.{last_syncs}
use Rattle.session.proofs.PlanLaws.{planned_held, have_one, have_none}
use Rattle.session.specs.GoodState.{SoundTable}
use Rattle.session.specs.Plan.{Body, Plan, Planned, have_of, haves_for, body_of, plan_of, planned, after}
use Rattle.session.specs.Receive.{Said, Received, left, received, receive_bytes}
use Rattle.session.specs.Written.{Host, message_for, heard_said}
use Rattle.session_state.specs.Session.{State}
use Rattle.table.specs.Table.{Row, GoodTable, held}
use Rattle.table_graph.proofs.BelowLaws.{beyond_few}
use Rattle.table_graph.specs.Graph.{heads, beyond}
use Rattle.waiting.specs.Waiting.{Waiting}
use Rattle.waiting_missing.specs.Missing.{missing}
use Rattle.walk.proofs.Loaded.{loads_more}
use Rattle.walk.proofs.Offers.{few_member, picks_whole}
use Rattle.walk.proofs.Walk01.{haves_given}
use Rattle.walk.specs.Round.{Part, Picks, Loads, trim}
use Rattle.walk.specs.Walk.{accepted}
use Rattle.walk_ends.proofs.Turning.{turns_parts, turns_cover}
use Rattle.walk_ends.specs.Ends.{StatedWords, End, heads_heard, list_for, end_spoken, Turn, Turns}
use Rattle.walk_ends_sessions.proofs.Hears.{Hears, hears}
use Rattle.walk_ends_sessions.proofs.Says.{Says, says}
use Rattle.walk_ends_sessions.proofs.Sides.{nothing, Speaker, Hearer, side_fresh}
use Rattle.walk_ends_sessions.specs.TalkEnds.{Units, said, taken, units_at, carried_before, both_hold, MessageAccepted, MessageGranted, MessageUnderway, EndTables, MessageAgrees, StatementEnds, SessionsAreEnds}
use Rattle.walk_picked.proofs.PickedWalkLaws.{accepted_picks}
use Rattle.walk_sessions.proofs.Answers.{MayGo}
use Rattle.walk_sessions.proofs.Passing.{body_passed, check_passed, passing_is, passed_as, may_go, passed_replies}
use Rattle.walk_sessions.proofs.Sides.{Fixed}
use Rattle.walk_sessions.proofs.Waits.{loads_longer, part_sound, part_few}
use Rattle.walk_sessions.specs.Passing.{Passes, FitIn, Replies}
use Rattle.walk_sessions.specs.Talk.{bytes_for, goes}
use Rattle.std.specs.Prelude.{Result}

-- what goes where this is passed is one of the lists that an end may name
replies_pick : (t : List Row) (p : Passes) (offer reply : List ℕ) → GoodTable t → every (held t) offer ≡ true → FitIn t p → Replies t p offer reply
    → Picks offer reply
replies_pick t Passes.all offer reply good ours fit e = subst (Picks offer) (sym e) (picks_whole offer)
replies_pick t (Passes.picked rowSizes budget pick) offer reply good ours fit e =
    subst (Picks offer) (sym e.0) (accepted_picks t offer rowSizes budget pick good ours fit e.1)

-- the last-sync hashes that are named are the shared heads
syncs_shared : (bits probes : ℕ) (t : List Row) (need heard shared : List ℕ) (h : ℕ) → member h (last_syncs (haves_for bits probes t need heard shared)) ≡ true
    → member h shared ≡ true
unfolding last_syncs have_of
syncs_shared bits probes t need heard shared h =
    split (every (λ x. member x heard) need)
    (λ e. rw (have_one bits probes t need heard shared e) (λ m. rw (last_syncs_one (have_of bits probes t shared)) at m))
    (λ e. rw (have_none bits probes t need heard shared e) (λ m. absurd (member_none h m)))

module _ (set : ℕ → Setting) (pass : ℕ → Passes) (J : List Row) (T : ℕ → List Row) (W : ℕ → List Waiting) (hosts : ℕ → Host) (tables : EndTables set pass J T W hosts) where
  sound : SoundTable J
  sound = record { good = tables.joint.good; are = tables.hashes; few = tables.limit }

  fixed : (i : ℕ) → Fixed (set i).bits (set i).probes J
  fixed i = record { sound = sound; setting = tables.setting i }

  abbrev units : ℕ → Units set pass J T W hosts
  units i = units_at set pass J T W hosts i

  -- an end over the tables of the talk
  abbrev place : ℕ → List ℕ → Option StatedWords → List ℕ → End
  place i sent heard named = record { table = T i; waits = W i; sent = sent; heard = heard; named = named }

  -- What stands before message i: messages in turn came to two ends over these tables, and both sides are as they were.
  pub record Standing (i : ℕ) : Type 0 where
    -- of the end that speaks
    pub sent : List ℕ
    pub told : Option StatedWords
    pub named : List ℕ
    pub carries : named ≡ (carried_before set pass J T W hosts i).by_speaker
    -- of the one that hears
    pub sent' : List ℕ
    pub told' : Option StatedWords
    pub named' : List ℕ
    pub carries' : named' ≡ (carried_before set pass J T W hosts i).by_hearer
    pub turns : Turns J (T 1) (T 0) i (place (suc i) sent told named) (place i sent' told' named')
    pub speaker : Speaker J (T (suc i)) (T i) (W (suc i)) sent told i (units i).speaker
    pub hearer : Hearer J (T i) (T (suc i)) (W i) sent' i (units i).hearer

  pub start : Standing 0
  unfolding carried_before units_at
  start =
      record {
        sent = [];
        told = none;
        named = [];
        carries = refl;
        sent' = [];
        told' = none;
        named' = [];
        carries' = refl;
        turns = rw (tables.nothing_first, tables.nothing_second) Turns.start;
        speaker =
            record {
              side = rw tables.nothing_first (side_fresh J (T 1) (T 0) tables.joint.part_x);
              peer = refl;
              lands = refl;
              first = λ e. refl;
              heard_so = nothing refl refl;
            };
        hearer = record { side = rw tables.nothing_second (side_fresh J (T 0) (T 1) tables.joint.part_y); first = λ e. refl };
      }

  -- ---- a message

  module _ (i : ℕ) (st : Standing i) (going : 2 ≤ i → both_hold set pass J T W hosts i ≡ false) (accepts : MessageAccepted set pass J T W hosts i) where
    abbrev t : List Row
    t = T (suc i)

    abbrev s : State
    s = (units i).speaker

    -- the ends that speak and hear
    abbrev e : End
    e = place (suc i) st.sent st.told st.named

    abbrev f : End
    f = place i st.sent' st.told' st.named'

    part : Part J t
    part = st.speaker.side.part

    -- what goes
    abbrev body : Body
    body = body_passed t s (pass i)

    abbrev check : Result Unit ℕ
    check = check_passed t s (pass i)

    may : MayGo t body check
    may = may_go t s (pass i) (part_sound J sound t part) st.speaker.side.good accepts

    abbrev message : Plan
    message = plan_of (set i).bits (set i).probes t (W (suc i)) s body

    abbrev need : List ℕ
    need = missing t (W (suc i)) (heads_heard st.told)

    abbrev haves : List Have
    haves = haves_for (set i).bits (set i).probes t need (heads_heard st.told) s.shared_heads

    saying : Says (set i).bits (set i).probes J t (T i) (W (suc i)) st.sent st.told i s body check
    saying =
        says (set i).bits (set i).probes J t (T i) (W (suc i)) st.sent st.told i s (fixed i) st.hearer.side.part st.speaker
        (turns_cover tables.joint st.turns)
        going
        body
        check
        may

    said_is : said set pass J T W hosts i (units i) ≡ Planned.says message (planned t s body)
    unfolding said
    said_is = passing_is (pass i) (set i).bits (set i).probes t (W (suc i)) s ∙ saying.says

    document_is : (body_of t s).document ≡ message.body.document
    document_is = sym (passed_as t s (pass i)) ∙ ap (λ (x : Body). x.document) (sym saying.body_is)

    hashes_are : message.body.hashes ≡ body.hashes
    hashes_are = ap (λ (x : Body). x.hashes) saying.body_is

    -- the end's list
    abbrev offer : List ℕ
    offer = list_for t st.sent st.told

    by_list : message.body.document ≡ false → Replies t (pass i) offer message.body.hashes
    by_list d =
        subst (Replies t (pass i) offer) (sym hashes_are)
        (passed_replies t s (pass i) offer accepts (document_is ∙ d) (saying.list (document_is ∙ d)))

    pub agrees : MessageAgrees set pass J T W hosts i e f
    agrees =
        record {
          message = message;
          next = planned t s body;
          speaks = said_is;
          heads_agree = saying.heads_are;
          need_agrees = saying.need_are;
          haves_agree = saying.haves_are;
          holds = λ h m. (st.speaker.side.ours h m, st.speaker.side.theirs h m);
          by_list = by_list;
        }

    goes_is : goes (said set pass J T W hosts i (units i)) ≡ message.body.hashes
    unfolding goes
    goes_is = ap goes said_is

    -- ---- and what is granted of it

    module _ (granted : MessageGranted set pass J T W hosts i) where
      abbrev u' : List Row
      u' = T (suc (suc i))

      abbrev reply : List ℕ
      reply = message.body.hashes

      list : message.body.document ≡ false
      list = granted.list message _ said_is

      loaded : Loads J (T i) (W i) reply u' (W (suc (suc i)))
      loaded = rw goes_is at granted.loads

      -- the list is all of the speaker's rows, and what goes is of it
      offer_held : every (held t) offer ≡ true
      offer_held =
          subst (λ (l : List ℕ). every (held t) l ≡ true) (saying.list (document_is ∙ list)) (planned_held t part.good s)

      picks : Picks offer reply
      picks = replies_pick t (pass i) offer reply part.good offer_held (tables.fits i) (by_list list)

      among : (h : ℕ) → member h reply ≡ true → member h offer ≡ true
      among = few_member reply offer picks.few

      -- its filter is over no more rows than the joint set's
      filtered : accepted (set i).bits (set i).probes t s.shared_heads ≡ true
      filtered =
          tables.setting i (length (beyond t s.shared_heads))
          (le_trans (beyond_few t s.shared_heads) (part_few J sound t part))

      -- ---- the ends' turn

      abbrev says_so : StatedWords
      says_so = record { heads = heads t; need = need; haves = haves }

      abbrev f' : End
      f' = place (suc (suc i)) (trim u' (heads t) st.sent') (some says_so) st.named'

      turn : Turn J e f says_so reply (end_spoken e reply) f'
      turn =
          record {
            speaks =
                record {
                  heads_are = refl;
                  need_is = refl;
                  gives =
                      haves_given (set i).bits (set i).probes t (W (suc i)) (heads_heard st.told) s.shared_heads filtered st.speaker.side.ours;
                  picks = picks;
                  after = refl;
                };
            both = λ h m.
                st.speaker.side.theirs h
                (syncs_shared (set i).bits (set i).probes t need (heads_heard st.told) s.shared_heads h m);
            hears = record { loads = loaded; after = refl };
          }

      turned : Turns J (T 1) (T 0) (suc i) f' (end_spoken e reply)
      turned = Turns.turn says_so reply st.turns turn

      part' : Part J u'
      part' = (turns_parts tables.joint turned).0

      -- ---- the sessions

      abbrev m : Said
      m = heard_said message

      hearing : Hears J t (T i) (W i) u' (W (suc (suc i))) st.sent' i (units i).hearer need haves m
      hearing =
          hears J t (T i) (W i) u' (W (suc (suc i))) st.sent' i (units i).hearer need haves m reply sound
          part
          part'
          st.hearer
          (λ h n. every_member (held t) offer offer_held h (among h n))
          loaded
          (saying.known u' (loads_more loaded))
          saying.hears

      small : length (message_bytes (message_for (hosts i) message)) ≤ sizes.message
      unfolding bytes_for
      small = rw said_is at granted.small

      pub taken_is : taken set pass J T W hosts i (units i) ≡ Received.took (received (length (T i)) u' (units i).hearer m)
      unfolding taken bytes_for
      taken_is =
          ap (λ (p : Planned). receive_bytes true (length (T i)) u' (units i).hearer (bytes_for (hosts i) p)) said_is
          ∙ saying.crosses (hosts i) small (length (T i)) u' (units i).hearer (loads_longer loaded)
          ∙ hearing.takes

      speaker_is : (units (suc i)).speaker ≡ received (length (T i)) u' (units i).hearer m
      unfolding units_at
      speaker_is = ap (λ (r : Received). left r (units i).hearer) taken_is

      hearer_is : (units (suc i)).hearer ≡ planned t s body
      unfolding units_at
      hearer_is = ap (λ (p : Planned). after p s) said_is

      listens : Hearer J t u' (W (suc i)) (st.sent ++ reply) (suc i) (planned t s body)
      listens =
          rw hashes_are
          (saying.next (document_is ∙ list)
          (λ h n. among h (subst (λ (l : List ℕ). member h l ≡ true) (sym hashes_are) n))
          u' part' (loads_more loaded))

      carries_on : st.named ++ reply ≡ (carried_before set pass J T W hosts (suc i)).by_hearer
      unfolding carried_before
      carries_on = ap₂ (λ (x y : List ℕ). x ++ y) st.carries (sym goes_is)

      carries_over : st.named' ≡ (carried_before set pass J T W hosts (suc i)).by_speaker
      unfolding carried_before
      carries_over = st.carries'

      pub next : Standing (suc i)
      next =
          record {
            sent = trim u' (heads t) st.sent';
            told = some says_so;
            named = st.named';
            carries = carries_over;
            sent' = st.sent ++ reply;
            told' = st.told;
            named' = st.named ++ reply;
            carries' = carries_on;
            turns = turned;
            speaker = rw speaker_is hearing.next;
            hearer = rw hearer_is listens;
          }

  -- ---- all messages

  pub standing : (i : ℕ) → ((k : ℕ) → k < i → 2 ≤ k → both_hold set pass J T W hosts k ≡ false) → ((k : ℕ) → k < i → MessageGranted set pass J T W hosts k) → Standing i
  standing zero f g = start
  standing (suc i) f g = next i (standing i (λ k h. f k (omega arith)) (λ k h. g k (omega arith))) (f i (omega arith)) (g i (omega arith)).accepts (g i (omega arith))

  pub inside_standing : (i : ℕ) → MessageUnderway set pass J T W hosts i → Standing i
  inside_standing i x = standing i (λ k h n. x.reached k n (omega arith)) x.granted

  pub statement : StatementEnds set pass J T W hosts
  statement =
      record {
        stated = λ i x accepts.
            let st = inside_standing i x in
            record {
              speaker = place (suc i) st.sent st.told st.named;
              hearer = place i st.sent' st.told' st.named';
              turns = st.turns;
              speaker_table = refl;
              speaker_waits = refl;
              speaker_named = st.carries;
              hearer_table = refl;
              hearer_waits = refl;
              hearer_named = st.carries';
              agrees = agrees i st (λ n. x.reached i n (omega arith)) accepts;
            };
        heard = λ i x g. (_, taken_is i (inside_standing i x) (λ n. x.reached i n (omega arith)) g.accepts g);
      }

pub sessions_are_ends : SessionsAreEnds
sessions_are_ends set pass J T W hosts tables = statement set pass J T W hosts tables
