-- The unit that hears a message takes it beside its table after loading, and may speak the next one. Its shared heads are held by both: those that are new to it came
-- with what was loaded, now or before, so they are rows of the one who sent them. What it sent loses what the other has by now, as its end's does. Assumes nothing.
use Prim.Native.Nat.{ℕ, suc, ◌≤◌}
use mathlib.Core.Bool.{Bool, true, false, not, ◌&&◌, ◌||◌}
use mathlib.Core.List.{List}
use mathlib.Core.Option.{some}
use mathlib.Core.Path.{◌≡◌, refl, sym, ap, ap₂, subst, ◌∙◌}
use native.Mathlib.Nat.{le_trans}
use native.Mathlib.Omega.{arith}
use borrow.Author.Tests.{not-true}
use lib.ListN.{length, take}
use Rattle.bloom.specs.Have.{Have}
use Rattle.hash_order.proofs.KeepLaws.{keep_member, every_member}
use Rattle.hash_order.specs.Order.{member, every}
use Rattle.rules.proofs.Cases.{split, both, either, true_false, and_false, or_right}
use Rattle.rules.specs.Sizes.{sizes}
use Rattle.session.proofs.GoodLaws.{received_good}
use Rattle.session.proofs.ReceiveLaws.{join_members, join_ascends, advance_members, shared_taken, shared_joined, left_members, left_inside, receive_is}
use Rattle.session.specs.GoodState.{SoundTable}
use Rattle.session.specs.Plan.{unknown_sync, empty}
use Rattle.session.specs.Receive.{Said, Received, flagged, sent_flagged, shared_loaded, shared_after, sent_left, join, loads, received, receive}
use Rattle.session.specs.Written.{haves_heard}
use Rattle.session_state.specs.Session.{State}
use Rattle.table.specs.Table.{Row, held}
use Rattle.table_graph.proofs.HeadLaws.{head_held}
use Rattle.table_graph.specs.Graph.{heads, below}
use Rattle.waiting.specs.Waiting.{Waiting, waiting}
use Rattle.walk.proofs.Loaded.{loads_more, loads_all}
use Rattle.walk.proofs.Loading.{settles_fewer}
use Rattle.walk.specs.Round.{Part, Loads, trim}
use Rattle.walk_ends_sessions.proofs.Sides.{words, Side, Speaker, Hearer, old_head, take_before}
use Rattle.walk_sessions.proofs.Spoken.{plain_writes, plain_keeps, HeardWords}
use Rattle.walk_sessions.proofs.Waits.{loads_waits, rows_few, part_sound}

-- u is the hearer's table and v waits beside it, u' and v' after loading; t is the table of the one who speaks, need and haves are what it says, and m is what is
-- heard of it
module _ (J t u : List Row) (v : List Waiting) (u' : List Row) (v' : List Waiting) (sent : List ℕ) (i : ℕ) (s : State) (need : List ℕ) (haves : List Have) (m : Said)
  where
    -- the session when it has heard the message
    abbrev end : State
    end = received (length u) u' s m

    -- What the hearer does with message i.
    pub record Hears : Type 0 where
      -- it takes it
      pub takes : receive true (length u) u' s m ≡ Received.took end
      -- and speaks the next one
      pub next : Speaker J u' t v' (trim u' (heads t) sent) (some (record { heads = heads t; need = need; haves = haves })) (suc i) end

    -- `reply` is what the speaker names
    module _ (reply : List ℕ) (sound : SoundTable J) (partT : Part J t) (partU' : Part J u') (inv : Hearer J u t v sent i s)
        (ours : (h : ℕ) → member h reply ≡ true → held t h ≡ true)
        (loaded : Loads J u v reply u' v') (known : unknown_sync u' (some (haves_heard haves)) ≡ false) (hm : HeardWords (heads t) need haves m) where
      abbrev side : Side J u t v sent s
      side = inv.side

      more : (h : ℕ) → held u h ≡ true → held u' h ≡ true
      more = loads_more loaded

      -- what waited or was named is the speaker's
      from_speaker : (h : ℕ) → (member h (waiting v) || member h reply) ≡ true → held t h ≡ true
      from_speaker h e = either (member h (waiting v)) (member h reply) e (side.came h) (ours h)

      -- and so is what wasn't held before
      new_theirs : (h : ℕ) → held u' h ≡ true → held u h ≡ false → held t h ≡ true
      new_theirs h e f =
          either (member h (waiting v) || member h reply) (held u h) (sym (loads_all loaded h) ∙ or_right (member h (waiting v')) (held u' h) e)
          (from_speaker h)
          (λ g. absurd (true_false (held u h) g f))

      -- ---- the shared heads

      -- what is held of them is held by both
      record ByBoth (l : List ℕ) : Type 0 where
        here : (h : ℕ) → member h l ≡ true → held u' h ≡ true
        there : (h : ℕ) → member h l ≡ true → held t h ≡ true

      -- a head that loading brought
      new_head : (h : ℕ) → member h (heads (take (length u) u')) ≡ false → member h (heads u') ≡ true → held t h ≡ true
      new_head h e f =
          split (held u h)
          (λ g.
          absurd (true_false (member h (heads u)) (old_head J u u' side.part partU' more h f g)
          (subst (λ (l : List Row). member h (heads l) ≡ false) (take_before loaded.settles) e)))
          (new_theirs h (head_held u' partU'.good h f))

      loaded_both : ByBoth (shared_loaded (length u) u' s m)
      unfolding shared_loaded
      loaded_both =
          let old : List ℕ = heads (take (length u) u') in
          let now : List ℕ = heads u' in
          let was : List ℕ = s.shared_heads in
          split (loads s m)
          (λ e. rw e
          (record {
            here = λ h f.
                either (not (member h old) && member h now) (member h now && member h was) (sym (advance_members old now was h) ∙ f)
                (λ g. head_held u' partU'.good h (both (not (member h old)) (member h now) g).1)
                (λ g. head_held u' partU'.good h (both (member h now) (member h was) g).0);
            there = λ h f.
                either (not (member h old) && member h now) (member h now && member h was) (sym (advance_members old now was h) ∙ f)
                (λ g. new_head h (not-true (member h old) (both (not (member h old)) (member h now) g).0) (both (not (member h old)) (member h now) g).1)
                (λ g. side.theirs h (both (member h now) (member h was) g).1);
          }))
          (λ e. rw e (record { here = λ h f. more h (side.ours h f); there = side.theirs }))

      -- the message's heads are the speaker's
      said_theirs : (h : ℕ) → member h m.heads ≡ true → held t h ≡ true
      said_theirs h e = head_held t partT.good h (subst (λ (l : List ℕ). member h l ≡ true) hm.heads_are e)

      shared_both : ByBoth (shared_after (length u) u' s m)
      shared_both =
          let l : List ℕ = shared_loaded (length u) u' s m in
          split (every (held u') m.heads)
          (λ e. rw (shared_taken (length u) u' s m e) (record { here = every_member (held u') m.heads e; there = said_theirs }))
          (λ e. rw (shared_joined (length u) u' s m e)
          (record {
            here = λ h f.
                either (held u' h && member h m.heads) (member h l) (sym (join_members u' m.heads l h) ∙ f)
                (λ g. (both (held u' h) (member h m.heads) g).0)
                (loaded_both.here h);
            there = λ h f.
                either (held u' h && member h m.heads) (member h l) (sym (join_members u' m.heads l h) ∙ f)
                (λ g. said_theirs h (both (held u' h) (member h m.heads) g).1)
                (loaded_both.there h);
          }))

      shared_few_lem : length (shared_after (length u) u' s m) ≤ sizes.hashes
      shared_few_lem =
          let l : List ℕ = shared_loaded (length u) u' s m in
          split (every (held u') m.heads)
          (λ e. rw (shared_taken (length u) u' s m e) hm.sound.heads.few)
          (λ e.
          rw (shared_joined (length u) u' s m e)
          (le_trans
          (rows_few u' (part_sound J sound u' partU') (join u' m.heads l) (join_ascends u' m.heads l)
          (λ h f. shared_both.here h (rw (sym (shared_joined (length u) u' s m e)) at f)))
          (omega arith)))

      taking : receive true (length u) u' s m ≡ Received.took end
      taking = receive_is true (length u) u' s m (and_false (loads s m)) shared_few_lem

      -- ---- what it sent

      flagged_stays : sent_flagged m.flags s.sent_hashes ≡ s.sent_hashes
      unfolding sent_flagged
      flagged_stays = rw (hm.flags_are, plain_keeps)

      -- a speaker without heads was sent nothing, and so nothing is forgotten
      left_so : (h : ℕ) → member h (sent_left u' s m) ≡ member h (trim u' (heads t) sent)
      unfolding trim
      left_so h =
          left_members u' s m h
          ∙ ap₂ ◌&&◌ (ap (λ (l : List ℕ). not (empty l)) hm.heads_are)
          (ap₂ ◌&&◌ (ap (λ (l : List ℕ). not (below u' l h)) hm.heads_are) (ap (member h) flagged_stays ∙ side.sent_so h))
          ∙ spare (empty (heads t)) (not (below u' (heads t) h)) (member h sent) (side.found h)
          ∙ sym (keep_member (λ x. not (below u' (heads t) x)) sent h)
        where
          spare : (a b c : Bool) → (c ≡ true → a ≡ false) → (not a && (b && c)) ≡ (b && c)
          spare a b true f = rw (f refl)
          spare true b false f = sym (and_false b)
          spare false b false f = refl

      -- ---- it may speak

      speaking : Speaker J u' t v' (trim u' (heads t) sent) (some (record { heads = heads t; need = need; haves = haves })) (suc i) end
      unfolding received flagged trim
      speaking =
          record {
            side =
                record {
                  part = partU';
                  waits = loads_waits loaded;
                  came = λ h e. from_speaker h (sym (loaded.joins.are h) ∙ settles_fewer loaded.settles h e);
                  good = received_good (length u) u' s m (part_sound J sound u' partU').are side.good hm.sound true end taking;
                  writes = side.writes;
                  keeps = side.keeps;
                  ours = shared_both.here;
                  theirs = shared_both.there;
                  sent_so = left_so;
                  own = λ h e. more h (side.own h (left_inside u' s m h e));
                  found = λ h e. side.found h (both (not (below u' (heads t) h)) (member h sent) (sym (keep_member (λ x. not (below u' (heads t) x)) sent h) ∙ e)).1;
                };
            peer = rw hm.flags_are plain_writes;
            lands = refl;
            first = λ e. inv.first (omega arith);
            heard_so = words _ refl (ap some hm.heads_are) (ap some hm.need_are) (ap some hm.haves_are) (rw hm.flags_are) known;
          }

      pub hears : Hears
      hears = record { takes = taking; next = speaking }
