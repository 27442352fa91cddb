-- B hears A's answer beside its table after loading, and its side stands again: its shared heads are rows of its table, and what is beyond its heads of
-- before is beyond them in A too, so that it is in A's filter. Assumes nothing.
use Prim.Native.Nat.{ℕ, suc, ◌≤◌}
use mathlib.Core.Bool.{true, not, ◌&&◌}
use mathlib.Core.List.{List, [], ◌∷◌}
use mathlib.Core.Option.{some}
use mathlib.Core.Path.{◌≡◌, refl, sym, ap, ◌∙◌}
use native.Mathlib.Nat.{le_trans}
use native.Mathlib.Omega.{arith}
use lib.ListN.{length, take}
use Rattle.table_graph.proofs.BelowLaws.{beyond_few, beyond_held, beyond_not_below, not_below_beyond}
use Rattle.table_graph.proofs.HeadLaws.{head_held, rows_below_heads}
use Rattle.table_graph.specs.Graph.{heads, below, beyond}
use Rattle.session.proofs.GoodLaws.{received_good}
use Rattle.session.proofs.ReceiveLaws.{join_members, join_ascends, advance_members, shared_taken, shared_joined, left_inside, receive_is}
use Rattle.session.specs.GoodState.{GoodState}
use Rattle.session.specs.Receive.{Said, Received, flagged, shared_loaded, shared_after, sent_left, join, loads, received, receive}
use Rattle.hash_order.proofs.KeepLaws.{no_members, every_member}
use Rattle.hash_order.proofs.OrderLaws.{member_none}
use Rattle.hash_order.specs.Order.{member, every}
use Rattle.bloom_probe.proofs.FieldLaws.{accepted_contained}
use Rattle.bloom_probe.specs.Build.{filter_of}
use Rattle.rules.proofs.Cases.{split, both, either, true_false, and_false}
use Rattle.rules.specs.Sizes.{sizes}
use Rattle.session.specs.Plan.{have_of, body_of, sent_after, planned}
use Rattle.session_state.specs.Session.{State}
use Rattle.table.specs.Table.{Row, held}
use Rattle.waiting.specs.Waiting.{Waiting}
use Rattle.walk.proofs.Parts.{part_itself, below_heads, below_there}
use Rattle.walk.specs.Round.{Part, Covers}
use Rattle.walk_sessions.proofs.Message.{heard_contains}
use Rattle.walk_sessions.proofs.Sides.{Fixed, said, SideB}
use Rattle.walk_sessions.proofs.Spoken.{plain_writes, HeardWords}
use Rattle.walk_sessions.proofs.Waits.{Waits, rows_few, part_sound}
use Rattle.session.specs.Written.{heard_have, haves_heard}

-- B's table b and what waits there become b' and w'; s is its session before the round, and m is what it hears of A
module _ (A b : List Row) (w : List Waiting) (b' : List Row) (w' : List Waiting) (k : ℕ) (s : State) (m : Said) where
  -- B's session when it has heard A
  abbrev end : State
  end = received (length b) b' (planned b s (body_of b s)) m

  -- What B does at the end of round k.
  pub record Returns : Type 0 where
    -- it takes the answer
    pub takes : receive true (length b) b' (planned b s (body_of b s)) m ≡ Received.took end
    -- and its side stands again
    pub next : SideB A b' w' (suc k) end

  module _ (bits probes : ℕ) (fixed : Fixed bits probes A) (inv : SideB A b w k s) (good : GoodState (planned b s (body_of b s))) (none : sent_after s (body_of b s) ≡ [])
      (part' : Part A b') (waits' : Waits A w') (more : (h : ℕ) → held b h ≡ true → held b' h ≡ true)
      (hm : HeardWords (heads A) [] (have_of bits probes A (heads b) ∷ []) m) where
    abbrev asking : State
    asking = planned b s (body_of b s)

    asking_shared : asking.shared_heads ≡ s.shared_heads
    unfolding planned
    asking_shared = refl

    asking_sent : asking.sent_hashes ≡ []
    unfolding planned
    asking_sent = none

    -- ---- the shared heads

    loaded_in : (h : ℕ) → member h (shared_loaded (length b) b' asking m) ≡ true → held b' h ≡ true
    unfolding shared_loaded
    loaded_in h =
        let old : List ℕ = heads (take (length b) b') in
        let new : List ℕ = heads b' in
        let was : List ℕ = asking.shared_heads in
        split (loads asking m)
        (λ e. rw e
        (λ f.
        either (not (member h old) && member h new) (member h new && member h was) (sym (advance_members old new was h) ∙ f)
        (λ g. head_held b' part'.good h (both (not (member h old)) (member h new) g).1)
        (λ g. head_held b' part'.good h (both (member h new) (member h was) g).0)))
        (λ e. rw e (λ f. more h (inv.shared h (rw asking_shared at f))))

    shared_in : (h : ℕ) → member h (shared_after (length b) b' asking m) ≡ true → held b' h ≡ true
    shared_in h =
        let l : List ℕ = shared_loaded (length b) b' asking m in
        split (every (held b') m.heads)
        (λ e. rw (shared_taken (length b) b' asking m e) (every_member (held b') m.heads e h))
        (λ e. rw (shared_joined (length b) b' asking m e)
        (λ f.
        either (held b' h && member h m.heads) (member h l) (sym (join_members b' m.heads l h) ∙ f)
        (λ g. (both (held b' h) (member h m.heads) g).0)
        (loaded_in h)))

    shared_few_lem : length (shared_after (length b) b' asking m) ≤ sizes.hashes
    shared_few_lem =
        let l : List ℕ = shared_loaded (length b) b' asking m in
        split (every (held b') m.heads)
        (λ e. rw (shared_taken (length b) b' asking m e) hm.sound.heads.few)
        (λ e.
        rw (shared_joined (length b) b' asking m e)
        (le_trans
        (rows_few b' (part_sound A fixed.sound b' part') (join b' m.heads l) (join_ascends b' m.heads l)
        (λ h f. shared_in h (rw (sym (shared_joined (length b) b' asking m e)) at f)))
        (omega arith)))

    taking : receive true (length b) b' asking m ≡ Received.took end
    taking = receive_is true (length b) b' asking m (and_false (loads asking m)) shared_few_lem

    -- ---- what was heard

    heads_stay : (h : ℕ) → member h (heads b) ≡ true → held b' h ≡ true
    heads_stay h e = more h (head_held b inv.part.good h e)

    -- what A has below B's heads is B's, and below them in its new table
    beyond_both : (h : ℕ) → member h (beyond b' (heads b)) ≡ true → member h (beyond A (heads b)) ≡ true
    beyond_both h e =
        not_below_beyond A fixed.sound.good (heads b) h (part'.within h (beyond_held b' part'.good (heads b) h e))
        (split (below A (heads b) h)
        (λ f.
        let there : held b h ≡ true = below_heads A A b (part_itself A fixed.sound.good) inv.part h f in
        absurd (true_false (below b' (heads b) h)
        (below_there A b' b part' inv.part (heads b) heads_stay h (rows_below_heads b inv.part.good h there))
        (beyond_not_below b' part'.good (heads b) h e)))
        (λ f. f))

    covered : Covers b' (heard_have (have_of bits probes A (heads b)))
    unfolding have_of
    covered =
        let l : List ℕ = beyond A (heads b) in
        record {
          holds = heads_stay;
          covers = λ h e. heard_contains (filter_of bits probes l) h ∙ accepted_contained bits probes l h (fixed.setting (length l) (beyond_few A (heads b))) (beyond_both h e);
        }

    one_have : m.haves ≡ heard_have (have_of bits probes A (heads b)) ∷ []
    unfolding haves_heard
    one_have = hm.haves_are

    sent_none : sent_left b' asking m ≡ []
    sent_none = no_members (sent_left b' asking m) (λ h e. member_none h (rw asking_sent at (left_inside b' asking m h e)))

    stands : SideB A b' w' (suc k) end
    unfolding received flagged planned
    stands =
        record {
          part = part';
          waits = waits';
          good = received_good (length b) b' asking m (part_sound A fixed.sound b' part').are good hm.sound true end taking;
          writes = inv.writes;
          peer = rw hm.flags_are plain_writes;
          keeps = refl;
          lands = refl;
          sent = sent_none;
          shared = shared_in;
          heard_so =
              said (heard_have (have_of bits probes A (heads b))) (ap some hm.heads_are) (ap some hm.need_are) (ap some one_have) covered;
        }

    pub returns : Returns
    returns = record { takes = taking; next = stands }
