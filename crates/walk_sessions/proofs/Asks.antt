-- B speaks in every round: the walk's heads, need and have, and nothing carried. What it heard has last-sync hashes that it holds and a filter that
-- contains its rows beyond them, so it has nothing to send; its heads aren't A's, so it isn't silent. Assumes nothing.
use Prim.Native.Nat.{ℕ, zero, suc, ◌/◌, ◌≤◌}
use mathlib.Core.Bool.{Bool, true, false}
use mathlib.Core.List.{List, [], ◌∷◌}
use mathlib.Core.Option.{none, some}
use mathlib.Core.Path.{◌≡◌, refl, ap, ◌∙◌}
use native.Mathlib.Omega.{arith}
use borrow.Author.Tests.{le-ltb}
use lib.ListN.{length}
use Rattle.bloom.specs.Have.{Have}
use Rattle.table_graph.proofs.BelowLaws.{not_below_beyond}
use Rattle.table_graph.proofs.HeadLaws.{head_held}
use Rattle.table_graph.specs.Graph.{heads}
use Rattle.session.proofs.GoodLaws.{planned_good, body_few}
use Rattle.session.specs.GoodState.{GoodState}
use Rattle.session.specs.Receive.{receive, receive_bytes}
use Rattle.send_members.proofs.SLaws.{last_syncs_one, filters_one}
use Rattle.message.specs.Message.{message_bytes}
use Rattle.message.specs.Sound.{SoundHashes}
use Rattle.waiting_missing.specs.Missing.{missing}
use Rattle.hash_order.proofs.KeepLaws.{every_one}
use Rattle.hash_order.proofs.OrderLaws.{member_none}
use Rattle.hash_order.specs.Order.{member, every, ascend}
use Rattle.bloom_probe.specs.Contains.{contains, any_contains}
use Rattle.rules.proofs.Cases.{split, or_left, and_false}
use Rattle.send.proofs.SelectLaws.{sent_empty, less_none}
use Rattle.send.specs.ToSend.{to_send_less}
use Rattle.session.specs.Plan.{Plan, Planned, heard, heard_as, have_of, haves_for, unknown_sync, list_of, document_part, body_for, body_heard, body_of, empty, silence, sent_after, plan_of, planned, plan}
use Rattle.session.proofs.PlanLaws.{need_missing, have_one, have_none, speaks_first, speaks_apart, plan_is}
use Rattle.session_state.specs.Session.{State}
use Rattle.table.specs.Table.{Row, held}
use Rattle.waiting.specs.Waiting.{Waiting}
use Rattle.walk.specs.Round.{Covers}
use Rattle.walk.specs.Walk.{heard_in}
use Rattle.walk_sessions.proofs.Sides.{Fixed, HeardBefore, nothing, said, SideB, Going, not_same, heads_apart}
use Rattle.walk_sessions.proofs.Spoken.{HeardWords, Spoken, spoken}
use Rattle.walk_sessions.proofs.Waits.{part_sound, part_few, missing_sound}
use Rattle.session.specs.Written.{Host, message_for, heard_have, haves_heard, heard_said}
use Rattle.std.specs.Prelude.{Ok}

-- ---- pieces of a plan

pub body_nothing : (t : List Row) (s : State) → s.peer_read_only ≡ false → s.their_have ≡ none → body_of t s ≡ list_of []
unfolding body_of body_heard
body_nothing t s p e = rw (p, e)

pub body_heard_lem : (t : List Row) (s : State) (haves : List Have) (need : List ℕ) → s.peer_read_only ≡ false → s.their_have ≡ some haves
    → s.their_need ≡ some need
    → body_of t s ≡ body_for t s.supports_v2 (heard_as [] s.their_heads) haves need s.sent_hashes
unfolding body_of body_heard
body_heard_lem t s haves need p e f = rw (p, e, f)

-- with nothing to send to a peer that has heads the body is empty
body_empty : (t : List Row) (v2 lost : Bool) (haves : List Have) (need sent : List ℕ) → lost ≡ false → to_send_less t haves need sent ≡ []
    → body_for t v2 lost haves need sent ≡ list_of []
unfolding body_for
body_empty t v2 lost haves need sent e f = rw (e, f, le-ltb (length t / document_part) 0 (omega arith), and_false v2)

pub sync_known : (t : List Row) (v : Have) → ((h : ℕ) → member h v.last_sync ≡ true → held t h ≡ true) → unknown_sync t (some (v ∷ [])) ≡ false
unfolding unknown_sync
sync_known t v f = rw (every_one (held t) v.last_sync f)

module _ (bits probes : ℕ) (A b : List Row) (w : List Waiting) (k : ℕ) (s : State) where
  abbrev q : Plan
  q = plan_of bits probes b w s (body_of b s)

  -- the walk's need and haves
  abbrev need : List ℕ
  need = missing b w (heard_in k A)

  abbrev haves : List Have
  haves = haves_for bits probes b need (heard_in k A) s.shared_heads

  -- What B says in round k.
  pub record Asks : Type 0 where
    -- it speaks, and neither resets nor is silent
    pub says : plan bits probes b w s ≡ Planned.says q (planned b s (body_of b s))
    -- the walk's words
    pub heads_are : q.heads ≡ heads b
    pub need_are : q.need ≡ need
    pub haves_are : q.haves ≡ haves
    -- nothing is carried, and nothing was sent
    pub body_is : q.body ≡ list_of []
    pub sent : sent_after s (body_of b s) ≡ []
    pub good : GoodState (planned b s (body_of b s))
    -- what is heard of it, from its bytes
    pub hears : HeardWords (heads b) need haves (heard_said q)
    pub crosses : (host : Host) (before : ℕ) (t : List Row) (r : State) → before ≤ length t
        → receive_bytes true before t r (message_bytes (message_for host q)) ≡ receive true before t r (heard_said q)
    -- A knows its last-sync hashes
    pub known : unknown_sync A (some (haves_heard haves)) ≡ false

  module _ (fixed : Fixed bits probes A) (going : Going A b k) (inv : SideB A b w k s) where
    heard_is : (k : ℕ) → HeardBefore A b s k → heard s.their_heads ≡ heard_in k A
    unfolding heard_in
    heard_is k (nothing e f g) = rw e
    heard_is k (said v e f g c) = rw e

    heard_rows : (k h : ℕ) → member h (heard_in k A) ≡ true → held A h ≡ true
    unfolding heard_in
    heard_rows zero h m = absurd (member_none h m)
    heard_rows (suc k) h m = head_held A fixed.sound.good h m

    need_sound : SoundHashes (missing b w (heard s.their_heads))
    need_sound = rw (heard_is k inv.heard_so) (missing_sound A fixed.sound b w inv.waits (heard_in k A) (heard_rows k))

    speech : Spoken bits probes b w s (body_of b s)
    speech =
        spoken bits probes b w s (body_of b s) A fixed (part_sound A fixed.sound b inv.part) (part_few A fixed.sound b inv.part) inv.good
        inv.writes
        inv.keeps
        need_sound
        (body_few b s (part_sound A fixed.sound b inv.part) inv.good)

    -- every row beyond the last-sync hashes that were heard is in the filter
    nothing_sent : (v : Have) → Covers b v → to_send_less b (v ∷ []) [] [] ≡ []
    unfolding any_contains
    nothing_sent v c =
        less_none b (v ∷ []) []
        ∙ sent_empty b inv.part.good (v ∷ [])
        (λ h e f.
        rw (filters_one v)
        (or_left (contains v.filter h) false
        (c.covers h (not_below_beyond b inv.part.good v.last_sync h e (rw (last_syncs_one v) at f)))))

    body_none : (k : ℕ) → Going A b k → HeardBefore A b s k → body_of b s ≡ list_of []
    body_none k o (nothing e f g) = body_nothing b s inv.peer f
    body_none k o (said v e f g c) =
        body_heard_lem b s (v ∷ []) [] inv.peer g f
        ∙ body_empty b s.supports_v2 (heard_as [] s.their_heads) (v ∷ []) [] s.sent_hashes
        (rw e
        (not_same (heads A) [] (heads_apart A b fixed.sound.good inv.part (o (omega arith)) [] (λ h m. absurd (member_none h m)))))
        (rw inv.sent (nothing_sent v c))

    no_reset : (k : ℕ) → HeardBefore A b s k → unknown_sync b s.their_have ≡ false
    unfolding unknown_sync
    no_reset k (nothing e f g) = rw f
    no_reset k (said v e f g c) = rw g (sync_known b v c.holds)

    speaks : (k : ℕ) → Going A b k → HeardBefore A b s k → silence b s (empty (body_of b s).hashes) ≡ false
    speaks k o (nothing e f g) = speaks_first b s _ g
    speaks k o (said v e f g c) =
        speaks_apart b s _ inv.lands
        (rw e
        (not_same (heads A) (heads b)
        (heads_apart A b fixed.sound.good inv.part (o (omega arith)) (heads b) (head_held b inv.part.good))))
        inv.writes

    body : body_of b s ≡ list_of []
    body = body_none k going inv.heard_so

    sent_none : sent_after s (body_of b s) ≡ []
    unfolding sent_after ascend
    sent_none = rw (body, inv.sent)

    speaking : plan bits probes b w s ≡ Planned.says q (planned b s (body_of b s))
    speaking =
        plan_is bits probes b w s (body_of b s) (Ok tt)
        (rw (inv.writes, need_missing b w (heard s.their_heads)) need_sound.few)
        (no_reset k inv.heard_so)
        (speaks k going inv.heard_so)
        (rw sent_none (omega arith))
        refl

    sync_held : unknown_sync A (some (haves_heard haves)) ≡ false
    unfolding haves_heard have_of unknown_sync
    sync_held =
        split (every (λ x. member x (heard_in k A)) need)
        (λ e.
        rw (have_one bits probes b need (heard_in k A) s.shared_heads e)
        (sync_known A (heard_have (have_of bits probes b s.shared_heads)) (λ h m. inv.part.within h (inv.shared h m))))
        (λ e. rw (have_none bits probes b need (heard_in k A) s.shared_heads e))

    pub asks : Asks
    asks =
        record {
          says = speaking;
          heads_are = speech.heads_are;
          need_are = speech.need_are ∙ ap (missing b w) (heard_is k inv.heard_so);
          haves_are =
              speech.haves_are
              ∙ ap (λ (l : List ℕ). haves_for bits probes b (missing b w l) l s.shared_heads) (heard_is k inv.heard_so);
          body_is = speech.body_is ∙ body;
          sent = sent_none;
          good = planned_good bits probes b w s (part_sound A fixed.sound b inv.part) inv.good _ _ speaking;
          hears = rw (heard_is k inv.heard_so) at speech.hears;
          crosses = λ host. speech.crosses host (speech.small body host);
          known = sync_held;
        }
