-- A takes what B says and answers: by list with the walk's reply, since the hashes that it sent are T. It knows B's last-sync hashes, so it doesn't reset;
-- its heads aren't B's, so it isn't silent; it holds B's heads, so it needs nothing. Assumes nothing.
use Prim.Native.Nat.{ℕ, zero, suc, ◌+◌, ◌/◌, ◌≤◌}
use mathlib.Core.Bool.{Bool, true, false, not, ◌&&◌, ◌||◌}
use mathlib.Core.List.{List, [], ◌∷◌, ◌++◌}
use mathlib.Core.Option.{Option, some}
use mathlib.Core.Path.{◌≡◌, refl, sym, ap, ap₂, ◌∙◌}
use native.Mathlib.Nat.{le_trans}
use native.Mathlib.Omega.{arith}
use borrow.Author.Tests.{le-ltb}
use lib.ListN.{length}
use Rattle.bloom.specs.Have.{Have}
use Rattle.table_graph.proofs.HeadLaws.{head_held}
use Rattle.table_graph.specs.Graph.{heads, below}
use Rattle.session.specs.GoodState.{GoodState}
use Rattle.hash_lists.specs.Lists.{same}
use Rattle.message.specs.Message.{counted, message_bytes}
use Rattle.message.specs.Sound.{SoundHashes}
use Rattle.waiting_missing.proofs.MissingLaws.{missing_held}
use Rattle.waiting_missing.specs.Missing.{missing}
use Rattle.hash_order.proofs.KeepLaws.{keep_member, keep_same, every_member, every_one, hashes_inside}
use Rattle.hash_order.proofs.OrderLaws.{member_append}
use Rattle.hash_order.specs.Order.{member, every}
use Rattle.rules.proofs.Cases.{either, true_false, and_false}
use Rattle.rules.specs.Hash.{AreHashes}
use Rattle.rules.specs.Sizes.{sizes}
use Rattle.send.specs.ToSend.{to_send, to_send_less}
use Rattle.session.specs.Plan.{Body, Plan, Planned, heard, heard_as, have_of, haves_for, unknown_sync, document_part, body_for, body_of, empty, silence, sent_after, plan_of, planned, is_fine, plan_body}
use Rattle.session.specs.Receive.{Said, Received, flagged, sent_flagged, sent_left, loads, received, receive, receive_bytes}
use Rattle.session.proofs.GoodLaws.{body_good, received_good}
use Rattle.session.proofs.PlanLaws.{list_hashes, sent_ascends, sent_members, need_missing, have_one, speaks_first, speaks_apart, plan_is}
use Rattle.session.proofs.ReceiveLaws.{shared_taken, left_members, left_inside, receive_is}
use Rattle.session_state.specs.Session.{State}
use Rattle.table.specs.Table.{Row, rows, held}
use Rattle.waiting.specs.Waiting.{Waiting}
use Rattle.walk.specs.Round.{Part, trim}
use Rattle.wire.specs.Item.{prefixed_bytes}
use Rattle.walk_sessions.proofs.Asks.{body_heard_lem}
use Rattle.walk_sessions.proofs.Message.{heard_selects}
use Rattle.walk_sessions.proofs.Sides.{Fixed, SideA, Going, not_same, heads_apart}
use Rattle.walk_sessions.proofs.Small.{most_words}
use Rattle.walk_sessions.proofs.Spoken.{plain_writes, plain_keeps, HeardWords, hears_as, Spoken, spoken}
use Rattle.walk_sessions.proofs.Waits.{rows_few}
use Rattle.session.specs.Written.{Host, chunks_for, message_for, haves_heard, heard_said}
use Rattle.std.specs.Prelude.{Result, Ok}

pub or_swap : (x y : Bool) → (x || y) ≡ (y || x)
or_swap true true = refl
or_swap true false = refl
or_swap false true = refl
or_swap false false = refl

-- a peer that knows V2 and gets a list has heads
pub list_found : (t : List Row) (lost : Bool) (haves : List Have) (need sent : List ℕ) → (body_for t true lost haves need sent).document ≡ false
    → lost ≡ false
unfolding body_for
list_found t true haves need sent e = absurd (true_false true refl e)
list_found t false haves need sent e = refl

-- and one with heads gets a list that is no more than its part of the rows
list_short : (t : List Row) (lost : Bool) (haves : List Have) (need sent : List ℕ) → lost ≡ false
    → length (to_send_less t haves need sent) ≤ length t / document_part
    → (body_for t true lost haves need sent).document ≡ false
unfolding body_for
list_short t lost haves need sent e f = rw (e, le-ltb _ _ f)

found_head : (l : List ℕ) → empty l ≡ false → same l [] ≡ false
unfolding same
found_head [] e = e
found_head (h ∷ hs) e = refl

pub some_head : (l : List ℕ) → same l [] ≡ false → empty l ≡ false
unfolding same
some_head [] e = e
some_head (h ∷ hs) e = refl

-- What may go: what the check says of it is fine, it names rows of A, and no more than may be sent at once.
pub record MayGo (A : List Row) (g : Body) (c : Result Unit ℕ) : Type 0 where
  pub fine : c ≡ Ok tt
  pub own : every (held A) g.hashes ≡ true
  pub few : length g.hashes ≤ sizes.hashes_to_send

-- b is B's table, u what waits beside A; need and haves are what B said, and m is what A hears of it
module _ (bits probes : ℕ) (A b : List Row) (u : List Waiting) (k : ℕ) (T : List ℕ) (a : State) (need : List ℕ) (haves : List Have) (m : Said) where
  -- A's session when it has heard B
  abbrev mid : State
  mid = received (length A) A a m

  -- T when B's heads and all below them were taken off
  abbrev trimmed : List ℕ
  trimmed = trim A (heads b) T

  -- g is what goes, c what the check says of it
  module _ (g : Body) (c : Result Unit ℕ) where
    abbrev q : Plan
    q = plan_of bits probes A u mid g

    -- What A does in round k.
    pub record Answers : Type 0 where
      -- it answers
      pub says : plan_body bits probes A u mid g c ≡ Planned.says q (planned A mid g)
      pub body_is : q.body ≡ g
      -- what is heard of the answer, from its bytes
      pub hears : HeardWords (heads A) [] (have_of bits probes A (heads b) ∷ []) (heard_said q)
      pub crosses : (host : Host) → length (message_bytes (message_for host q)) ≤ sizes.message
          → (before : ℕ) (t : List Row) (r : State)
          → before ≤ length t
          → receive_bytes true before t r (message_bytes (message_for host q)) ≡ receive true before t r (heard_said q)
      -- it is within its size if its chunks leave room
      pub fits : (host : Host) → most_words + length (counted prefixed_bytes (chunks_for host q)) ≤ sizes.message
          → length (message_bytes (message_for host q)) ≤ sizes.message
      -- to a peer with heads it goes by list if the walk's reply is no more than that part of the rows
      pub short : empty (heads b) ≡ false → length (to_send_less A haves need trimmed) ≤ length A / document_part → (body_of A mid).document ≡ false
      -- by list the walk's reply is what the session asks for
      pub list : (body_of A mid).document ≡ false → (body_of A mid).hashes ≡ to_send_less A haves need trimmed
      -- and A's side stands again
      pub next : (body_of A mid).document ≡ false → SideA A (suc k) (trimmed ++ g.hashes) (planned A mid g)

  module _ (fixed : Fixed bits probes A) (part : Part A b) (going : Going A b k) (inv : SideA A k T a)
      (known : unknown_sync A (some (haves_heard haves)) ≡ false) (hm : HeardWords (heads b) need haves m) where
    b_heads : (h : ℕ) → member h (heads b) ≡ true → held b h ≡ true
    b_heads = head_held b part.good

    heads_held : every (held A) m.heads ≡ true
    heads_held = every_one (held A) m.heads (λ h e. part.within h (b_heads h (rw hm.heads_are at e)))

    -- it takes the message
    pub taking : receive true (length A) A a m ≡ Received.took mid
    taking =
        receive_is true (length A) A a m (and_false (loads a m)) (rw (shared_taken (length A) A a m heads_held) hm.sound.heads.few)

    pub mid_good : GoodState mid
    mid_good = received_good (length A) A a m fixed.sound.are inv.good hm.sound true mid taking

    mid_writes : mid.read_only ≡ false
    unfolding received flagged
    mid_writes = inv.writes

    mid_keeps : mid.needs_reset ≡ false
    unfolding received flagged
    mid_keeps = inv.keeps

    mid_peer : mid.peer_read_only ≡ false
    unfolding received flagged
    mid_peer = rw hm.flags_are plain_writes

    mid_v2 : mid.supports_v2 ≡ true
    unfolding received flagged
    mid_v2 = rw hm.flags_are

    mid_lands : mid.in_flight ≡ false
    unfolding received flagged
    mid_lands = refl

    mid_responded : mid.have_responded ≡ a.have_responded
    unfolding received flagged
    mid_responded = refl

    mid_heads : mid.their_heads ≡ some (heads b)
    unfolding received
    mid_heads = ap some hm.heads_are

    mid_need : mid.their_need ≡ some need
    unfolding received
    mid_need = ap some hm.need_are

    mid_have : mid.their_have ≡ some (haves_heard haves)
    unfolding received
    mid_have = ap some hm.haves_are

    mid_shared : mid.shared_heads ≡ heads b
    unfolding received
    mid_shared = shared_taken (length A) A a m heads_held ∙ hm.heads_are

    mid_left : mid.sent_hashes ≡ sent_left A a m
    unfolding received
    mid_left = refl

    -- ---- A needs nothing

    needs_none : missing A u (heard mid.their_heads) ≡ []
    needs_none = rw mid_heads (missing_held A u (heads b) (λ h e. part.within h (b_heads h e)))

    need_sound : SoundHashes (missing A u (heard mid.their_heads))
    unfolding AreHashes
    need_sound = rw needs_none (record { few = omega arith; are = tt })

    -- ---- B has heads, so A forgets nothing

    module _ (found : empty m.heads ≡ false) where
      flagged_stays : sent_flagged m.flags a.sent_hashes ≡ a.sent_hashes
      unfolding sent_flagged
      flagged_stays = rw (hm.flags_are, plain_keeps)

      -- the hashes sent are T's, trimmed as T is
      mid_sent : (h : ℕ) → member h mid.sent_hashes ≡ member h trimmed
      unfolding trim
      mid_sent h =
          let there : (not (below A m.heads h) && member h (sent_flagged m.flags a.sent_hashes)) ≡ (not (below A (heads b) h) && member h T) =
          ap₂ ◌&&◌ (ap (λ (l : List ℕ). not (below A l h)) hm.heads_are) (ap (member h) flagged_stays ∙ inv.sent h)
          in
          ap (member h) mid_left
          ∙ left_members A a m h
          ∙ ap₂ ◌&&◌ (ap not found) there
          ∙ sym (keep_member (λ x. not (below A (heads b) x)) T h)

      -- so the hashes to send are the walk's
      selects : to_send_less A (haves_heard haves) need mid.sent_hashes ≡ to_send_less A haves need trimmed
      unfolding to_send_less
      selects =
          heard_selects A haves need mid.sent_hashes ∙ keep_same _ _ (to_send A haves need) (λ h e. ap not (mid_sent h))

    mid_body : body_of A mid ≡ body_for A true (same (heads b) []) (haves_heard haves) need mid.sent_hashes
    mid_body =
        body_heard_lem A mid (haves_heard haves) need mid_peer mid_have mid_need
        ∙ ap₂ (λ (v2 : Bool) (o : Option (List ℕ)). body_for A v2 (heard_as [] o) (haves_heard haves) need mid.sent_hashes) mid_v2 mid_heads

    few_listed : empty (heads b) ≡ false → length (to_send_less A haves need trimmed) ≤ length A / document_part → (body_of A mid).document ≡ false
    few_listed found few =
        ap (λ (x : Body). x.document) mid_body
        ∙ list_short A (same (heads b) []) (haves_heard haves) need mid.sent_hashes (found_head (heads b) found)
        (rw (selects (rw hm.heads_are found)) few)

    -- ---- by list

    module _ (list : (body_of A mid).document ≡ false) where
      not_lost : empty m.heads ≡ false
      not_lost =
          rw hm.heads_are
          (some_head (heads b)
          (list_found A _ (haves_heard haves) need mid.sent_hashes (ap (λ (x : Body). x.document) (sym mid_body) ∙ list)))

      by_list : (body_of A mid).hashes ≡ to_send_less A haves need trimmed
      by_list = list_hashes A mid (haves_heard haves) need mid_peer mid_have mid_need list ∙ selects not_lost

    -- ---- A speaks

    module _ (g : Body) (c : Result Unit ℕ) (may : MayGo A g c) where
      sent_own : (h : ℕ) → member h (sent_after mid g) ≡ true → held A h ≡ true
      sent_own h e =
          either (member h g.hashes) (member h mid.sent_hashes) (sym (sent_members mid g h) ∙ e)
          (λ f. every_member (held A) g.hashes may.own h f)
          (λ f. inv.own h (left_inside A a m h (rw mid_left at f)))

      own_hashes : AreHashes g.hashes
      unfolding held
      own_hashes = hashes_inside g.hashes (rows A) fixed.sound.are (λ h e. every_member (held A) g.hashes may.own h e)

      speaks : (k : ℕ) → Going A b k → (k ≡ 0 → a.have_responded ≡ false) → silence A mid (is_fine c && empty g.hashes) ≡ false
      speaks zero o f = speaks_first A mid _ (mid_responded ∙ f refl)
      speaks (suc k) o f =
          speaks_apart A mid _ mid_lands
          (rw mid_heads (not_same (heads b) (heads A) (λ e. heads_apart A b fixed.sound.good part (o (omega arith)) (heads b) b_heads (sym e))))
          mid_writes

      speaking : plan_body bits probes A u mid g c ≡ Planned.says (q g c) (planned A mid g)
      speaking =
          plan_is bits probes A u mid g c
          (rw (mid_writes, need_missing A u (heard mid.their_heads)) need_sound.few)
          (rw mid_have known)
          (speaks k going inv.first)
          (le_trans (rows_few A fixed.sound (sent_after mid g) (sent_ascends mid g) sent_own) (omega arith))
          may.fine

      speech : Spoken bits probes A u mid g
      speech = spoken bits probes A u mid g A fixed fixed.sound (omega arith) mid_good mid_writes mid_keeps need_sound may.few

      back : HeardWords (heads A) [] (have_of bits probes A (heads b) ∷ []) (heard_said (q g c))
      unfolding every
      back =
          let l : List ℕ = heard mid.their_heads in
          hears_as speech.hears needs_none
          (ap₂ (λ (n x : List ℕ). haves_for bits probes A n l x) needs_none mid_shared ∙ have_one bits probes A [] l (heads b) refl)

      stands : (body_of A mid).document ≡ false → SideA A (suc k) (trimmed ++ g.hashes) (planned A mid g)
      unfolding planned
      stands list =
          record {
            good = body_good bits probes A u mid fixed.sound mid_good g c own_hashes _ _ speaking;
            writes = mid_writes;
            keeps = refl;
            first = λ e. absurd (omega arith);
            sent = λ h.
                sent_members mid g h
                ∙ ap (◌||◌ (member h g.hashes)) (mid_sent (not_lost list) h)
                ∙ or_swap (member h g.hashes) (member h trimmed)
                ∙ sym (member_append h trimmed g.hashes);
            own = sent_own;
          }

      pub answers : Answers g c
      answers =
          record {
            says = speaking;
            body_is = speech.body_is;
            hears = back;
            crosses = speech.crosses;
            fits = speech.fits;
            short = few_listed;
            list = by_list;
            next = stands;
          }
