-- The unit that speaks a message states what its end states: its heads, what is missing from the heads heard, a have whose last-sync hashes both hold, and by list
-- the end's list, since what it heard and what it sent are the end's. It knows the last-sync hashes that it heard, so it doesn't reset; in the first exchange it has
-- said nothing yet and afterwards the other's heads aren't its own, so it isn't silent. Assumes nothing.
use Prim.Native.Nat.{ℕ, suc, ◌≤◌}
use mathlib.Core.Bool.{true, false, not, ◌&&◌, ◌||◌}
use mathlib.Core.List.{List, ◌++◌}
use mathlib.Core.Option.{Option, some}
use mathlib.Core.Path.{◌≡◌, refl, sym, ap, ◌∙◌}
use native.Mathlib.Nat.{le_trans}
use native.Mathlib.Omega.{arith}
use borrow.Author.Tests.{ltb-true, ltb-false}
use lib.Dec.{ltb}
use lib.ListN.{length}
use Rattle.bloom.specs.Have.{Have}
use Rattle.hash_order.proofs.KeepLaws.{keep_same, every_member, hashes_inside}
use Rattle.hash_order.proofs.OrderLaws.{member_append, member_none}
use Rattle.hash_order.specs.Order.{member, every}
use Rattle.message.specs.Message.{message_bytes}
use Rattle.message.specs.Sound.{SoundHashes}
use Rattle.rules.proofs.Cases.{split, either}
use Rattle.rules.specs.Hash.{AreHashes}
use Rattle.rules.specs.Sizes.{sizes}
use Rattle.send.specs.ToSend.{to_send, to_send_less}
use Rattle.session.proofs.GoodLaws.{body_good}
use Rattle.session.proofs.PlanLaws.{list_hashes, sent_ascends, sent_members, need_missing, have_one, have_none, speaks_first, speaks_apart, plan_is}
use Rattle.session.specs.GoodState.{SoundTable}
use Rattle.session.specs.Plan.{Body, Plan, Planned, heard, have_of, haves_for, unknown_sync, body_of, empty, silence, sent_after, plan_of, planned, is_fine, plan_body}
use Rattle.session.specs.Receive.{receive, receive_bytes}
use Rattle.session.specs.Written.{Host, message_for, heard_have, haves_heard, heard_said}
use Rattle.session_state.specs.Session.{State}
use Rattle.table.specs.Table.{Row, rows, held}
use Rattle.table_graph.proofs.HeadLaws.{head_held}
use Rattle.table_graph.specs.Graph.{heads}
use Rattle.waiting.specs.Waiting.{Waiting}
use Rattle.waiting_missing.specs.Missing.{missing}
use Rattle.walk.specs.Round.{Part}
use Rattle.walk.specs.Walk.{holds_all}
use Rattle.walk_ends.specs.Ends.{StatedWords, heads_heard, list_for}
use Rattle.walk_ends_sessions.proofs.Sides.{HeardSo, nothing, words, Side, Speaker, Hearer, heads_stay, heads_apart}
use Rattle.walk_sessions.proofs.Answers.{MayGo, or_swap, some_head, list_found}
use Rattle.walk_sessions.proofs.Asks.{body_heard_lem, body_nothing, sync_known}
use Rattle.walk_sessions.proofs.Message.{heard_selects}
use Rattle.walk_sessions.proofs.Sides.{Fixed, not_same}
use Rattle.walk_sessions.proofs.Spoken.{HeardWords, Spoken, spoken}
use Rattle.walk_sessions.proofs.Waits.{rows_few, part_sound, part_few, missing_sound}
use Rattle.std.specs.Prelude.{Result}

-- t is the speaker's table, u the hearer's; told is what the speaker's end has heard
module _ (bits probes : ℕ) (J t u : List Row) (w : List Waiting) (sent : List ℕ) (told : Option StatedWords) (i : ℕ) (s : State) where
  -- the end's need and haves
  abbrev need : List ℕ
  need = missing t w (heads_heard told)

  abbrev haves : List Have
  haves = haves_for bits probes t need (heads_heard told) s.shared_heads

  -- g is what goes, c what the check says of it
  module _ (g : Body) (c : Result Unit ℕ) where
    abbrev q : Plan
    q = plan_of bits probes t w s g

    -- What the speaker does in message i.
    pub record Says : Type 0 where
      -- it speaks, and neither resets nor is silent
      pub says : plan_body bits probes t w s g c ≡ Planned.says q (planned t s g)
      -- the end's words
      pub heads_are : q.heads ≡ heads t
      pub need_are : q.need ≡ need
      pub haves_are : q.haves ≡ haves
      pub body_is : q.body ≡ g
      -- what is heard of it, from its bytes
      pub hears : HeardWords (heads t) need haves (heard_said q)
      pub crosses : (host : Host) → length (message_bytes (message_for host q)) ≤ sizes.message
          → (before : ℕ) (t' : List Row) (r : State)
          → before ≤ length t'
          → receive_bytes true before t' r (message_bytes (message_for host q)) ≡ receive true before t' r (heard_said q)
      -- its last-sync hashes are known to whoever holds what the other one held
      pub known : (u' : List Row) → ((h : ℕ) → held u h ≡ true → held u' h ≡ true) → unknown_sync u' (some (haves_heard haves)) ≡ false
      -- by list the session asks for the end's list
      pub list : (body_of t s).document ≡ false → (body_of t s).hashes ≡ list_for t sent told
      -- and where some of that went, it hears the next message
      pub next : (body_of t s).document ≡ false → ((h : ℕ) → member h g.hashes ≡ true → member h (list_for t sent told) ≡ true)
          → (u' : List Row) → Part J u' → ((h : ℕ) → held u h ≡ true → held u' h ≡ true)
          → Hearer J t u' w (sent ++ g.hashes) (suc i) (planned t s g)

  module _ (fixed : Fixed bits probes J) (partU : Part J u) (inv : Speaker J t u w sent told i s) where
    abbrev side : Side J t u w sent s
    side = inv.side

    sound : SoundTable t
    sound = part_sound J fixed.sound t side.part

    heard_is : (o : Option StatedWords) → HeardSo t u s o → heard s.their_heads ≡ heads_heard o
    heard_is o (nothing e f) = rw e
    heard_is o (words m hs e f g v k) = rw e

    heard_rows : (o : Option StatedWords) → HeardSo t u s o → (h : ℕ) → member h (heads_heard o) ≡ true → held J h ≡ true
    heard_rows o (nothing e f) h n = absurd (member_none h n)
    heard_rows o (words m hs e f g v k) h n = partU.within h (head_held u partU.good h (rw hs at n))

    need_sound : SoundHashes (missing t w (heard s.their_heads))
    need_sound = rw (heard_is told inv.heard_so) (missing_sound J fixed.sound t w side.waits (heads_heard told) (heard_rows told inv.heard_so))

    no_reset : (o : Option StatedWords) → HeardSo t u s o → unknown_sync t s.their_have ≡ false
    unfolding unknown_sync
    no_reset o (nothing e f) = rw f
    no_reset o (words m hs e f g v k) = rw g k

    -- ---- by list

    -- what it sent is what its end sent, so the hashes to send are the end's list
    selects : (m : StatedWords) → to_send_less t (haves_heard m.haves) m.need s.sent_hashes ≡ to_send_less t m.haves m.need sent
    unfolding to_send_less
    selects m = heard_selects t m.haves m.need s.sent_hashes ∙ keep_same _ _ (to_send t m.haves m.need) (λ h e. ap not (side.sent_so h))

    listed : (o : Option StatedWords) → HeardSo t u s o → (body_of t s).document ≡ false → (body_of t s).hashes ≡ list_for t sent o
    unfolding list_for
    listed o (nothing e f) list = ap (λ (b : Body). b.hashes) (body_nothing t s inv.peer f)
    listed o (words m hs e f g v k) list = list_hashes t s (haves_heard m.haves) m.need inv.peer g f list ∙ selects m

    -- and something goes by list only to a unit with heads
    heads_found : (o : Option StatedWords) → HeardSo t u s o → (body_of t s).document ≡ false → (h : ℕ) → member h (list_for t sent o) ≡ true
        → empty (heads u) ≡ false
    unfolding list_for
    heads_found o (nothing e f) list h n = absurd (member_none h n)
    heads_found o (words m hs e f g v k) list h n =
        some_head (heads u)
        (list_found t _ (haves_heard m.haves) m.need s.sent_hashes
        (rw (v, e, hs) at (ap (λ (b : Body). b.document) (sym (body_heard_lem t s (haves_heard m.haves) m.need inv.peer g f)) ∙ list)))

    -- ---- it speaks

    -- the last-sync hashes that it names are known to whoever holds what the other one held
    known_there : (u' : List Row) → ((h : ℕ) → held u h ≡ true → held u' h ≡ true) → unknown_sync u' (some (haves_heard haves)) ≡ false
    unfolding haves_heard have_of unknown_sync
    known_there u' more =
        split (every (λ x. member x (heads_heard told)) need)
        (λ e.
        rw (have_one bits probes t need (heads_heard told) s.shared_heads e)
        (sync_known u' (heard_have (have_of bits probes t s.shared_heads)) (λ h m. more h (side.theirs h m))))
        (λ e. rw (have_none bits probes t need (heads_heard told) s.shared_heads e))

    module _ (cover : (h : ℕ) → held J h ≡ true → (held t h || held u h) ≡ true) (going : 2 ≤ i → (holds_all J u && holds_all J t) ≡ false) (g : Body) (c : Result Unit ℕ)
        (may : MayGo t g c) where
      sent_own : (h : ℕ) → member h (sent_after s g) ≡ true → held t h ≡ true
      sent_own h e =
          either (member h g.hashes) (member h s.sent_hashes) (sym (sent_members s g h) ∙ e)
          (λ f. every_member (held t) g.hashes may.own h f)
          (λ f. side.own h f)

      own_hashes : AreHashes g.hashes
      unfolding held
      own_hashes = hashes_inside g.hashes (rows t) sound.are (λ h e. every_member (held t) g.hashes may.own h e)

      speaks : (o : Option StatedWords) → HeardSo t u s o → silence t s (is_fine c && empty g.hashes) ≡ false
      speaks o x =
          split (ltb 1 i)
          (λ e. apart o x (ltb-true 1 i e))
          (λ e. speaks_first t s _ (inv.first (ltb-false 1 i e)))
        where
          apart : (o : Option StatedWords) → HeardSo t u s o → 2 ≤ i → silence t s (is_fine c && empty g.hashes) ≡ false
          apart o (nothing e f) n = speaks_apart t s _ inv.lands (rw e) side.writes
          apart o (words m hs e f g' v k) n =
              speaks_apart t s _ inv.lands (rw (e, hs) (not_same (heads u) (heads t) (heads_apart J t u side.part partU cover (going n)))) side.writes

      speaking : plan_body bits probes t w s g c ≡ Planned.says (q g c) (planned t s g)
      speaking =
          plan_is bits probes t w s g c
          (rw (side.writes, need_missing t w (heard s.their_heads)) need_sound.few)
          (no_reset told inv.heard_so)
          (speaks told inv.heard_so)
          (le_trans (rows_few t sound (sent_after s g) (sent_ascends s g) sent_own) (omega arith))
          may.fine

      speech : Spoken bits probes t w s g
      speech =
          spoken bits probes t w s g J fixed sound (part_few J fixed.sound t side.part) side.good side.writes side.keeps need_sound may.few

      -- ---- and hears the next one

      -- u' is the other one's table afterwards
      module _ (list : (body_of t s).document ≡ false) (goes : (h : ℕ) → member h g.hashes ≡ true → member h (list_for t sent told) ≡ true)
          (u' : List Row) (partU' : Part J u') (more : (h : ℕ) → held u h ≡ true → held u' h ≡ true) where
        still_found : (h : ℕ) → member h (sent ++ g.hashes) ≡ true → empty (heads u') ≡ false
        still_found h m =
            heads_stay u u' partU.good partU'.good more
            (either (member h sent) (member h g.hashes) (sym (member_append h sent g.hashes) ∙ m)
            (side.found h)
            (λ n. heads_found told inv.heard_so list h (goes h n)))

        hearing : Hearer J t u' w (sent ++ g.hashes) (suc i) (planned t s g)
        unfolding planned
        hearing =
            record {
              side =
                  record {
                    part = side.part;
                    waits = side.waits;
                    came = λ h m. more h (side.came h m);
                    good = body_good bits probes t w s sound side.good g c own_hashes _ _ speaking;
                    writes = side.writes;
                    keeps = refl;
                    ours = side.ours;
                    theirs = λ h m. more h (side.theirs h m);
                    sent_so = λ h.
                        sent_members s g h
                        ∙ ap (◌||◌ (member h g.hashes)) (side.sent_so h)
                        ∙ or_swap (member h g.hashes) (member h sent)
                        ∙ sym (member_append h sent g.hashes);
                    own = sent_own;
                    found = still_found;
                  };
              first = λ e. absurd (omega arith);
            }

      pub says : Says g c
      says =
          let heard_so : heard s.their_heads ≡ heads_heard told = heard_is told inv.heard_so in
          record {
            says = speaking;
            heads_are = speech.heads_are;
            need_are = speech.need_are ∙ ap (missing t w) heard_so;
            haves_are = speech.haves_are ∙ ap (λ (l : List ℕ). haves_for bits probes t (missing t w l) l s.shared_heads) heard_so;
            body_is = speech.body_is;
            hears = rw heard_so at speech.hears;
            crosses = speech.crosses;
            known = known_there;
            list = listed told inv.heard_so;
            next = hearing;
          }
