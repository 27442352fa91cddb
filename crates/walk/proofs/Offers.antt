-- What an end X offers to one that catches up: rows of X that are neither held there nor wait. A need is so by what missing means. A row of S is not
-- held: what B holds beyond its last-sync hashes is in the filter, and what it holds is closed under dependencies, so no dependent of a row that it
-- lacks is held. What waits is in T, which is taken off. And T loses only what B holds. Assumes nothing.
use Prim.Native.Nat.{ℕ, ◌≤◌}
use mathlib.Core.Bool.{true, false, not, ◌&&◌}
use mathlib.Core.List.{List, [], ◌∷◌}
use mathlib.Core.Path.{◌≡◌, refl, sym, ap, ◌∙◌}
use native.Mathlib.Omega.{arith}
use Rattle.bloom.specs.Have.{Have}
use Rattle.table_graph.proofs.BelowLaws.{not_below_beyond}
use Rattle.table_graph.specs.Graph.{heads, below}
use Rattle.send_members.proofs.SLaws.{last_syncs_one, filters_one, s_least}
use Rattle.send_members.specs.Internal.Members.{last_syncs, filters, the_s}
use Rattle.waiting_missing.proofs.MissingLaws.{unknown_not_held, unknown_not_waiting, missing_unknown, missing_ascends, missing_induction}
use Rattle.waiting_missing.specs.Missing.{missing}
use Rattle.hash_order.proofs.KeepLaws.{keep_member, often_none, often_some, once_ascends}
use Rattle.hash_order.specs.Order.{member, often, Once}
use Rattle.bloom_probe.specs.Contains.{contains, any_contains}
use Rattle.rules.proofs.Cases.{split, both, true_false, either, or_left, and_true}
use Rattle.send.proofs.SelectLaws.{named_none, named, need_named, sent_held, less_named, less_new, less_sent, less_once}
use Rattle.send.specs.ToSend.{to_send}
use Rattle.table.specs.Table.{Row, held}
use Rattle.waiting.specs.Waiting.{Waiting, waiting}
use Rattle.walk.specs.Round.{Part, Covers, Gives, one, none, trim, Picks}
use Rattle.walk.specs.Walk.{At, walk_need, offer_to}
use Rattle.walk.proofs.Between.{Between}
use Rattle.walk.proofs.Parts.{part_closed, parts_closed, below_heads, below_there}

-- A list whose numbers stand no more often than in another has its members.
pub few_member : (a b : List ℕ) → ((h : ℕ) → often h a ≤ often h b) → (h : ℕ) → member h a ≡ true → member h b ≡ true
few_member a b f h m = split (member h b) (λ e. e) (λ e. absurd (omega (arith, f h, often_some h a m, often_none h b e)))

-- The whole of an offer is picked.
pub picks_whole : (offer : List ℕ) → Picks offer offer
picks_whole offer = record { few = λ h. omega arith; some = λ x m. (x, m) }

module _ {J X : List Row} (part_x : Part J X) (s : At) (inv : Between J s.table s.waits s.sent)
    (heard : List ℕ) (known : (h : ℕ) → member h heard ≡ true → held X h ≡ true) where
  abbrev b : List Row
  b = s.table

  abbrev w : List Waiting
  w = s.waits

  abbrev part_b : Part J b
  part_b = inv.beside.part

  -- ---- needs

  abbrev need : List ℕ
  need = walk_need heard s

  -- what is missing from what was heard is needed, and nothing else
  need_is : (x : ℕ) → member x need ≡ member x (missing b w heard)
  need_is x = refl

  missing_needed : (x : ℕ) → member x (missing b w heard) ≡ true → member x need ≡ true
  missing_needed x m = need_is x ∙ m

  need_missing : (x : ℕ) → member x need ≡ true → member x (missing b w heard) ≡ true
  need_missing x m = sym (need_is x) ∙ m

  need_once : Once need
  need_once = once_ascends need (missing_ascends b w _)

  need_held : (x : ℕ) → member x need ≡ true → held X x ≡ true
  need_held x m =
      missing_induction b w inv.beside.once (λ h. held X h ≡ true) heard known
      (λ g n e p d k. part_closed J X part_x g d p (sym (inv.beside.ask g d n) ∙ k))
      x (need_missing x m)

  need_out : (x : ℕ) → member x need ≡ true → held b x ≡ false
  need_out x m = unknown_not_held b w x (missing_unknown b w heard x (need_missing x m))

  need_new : (x : ℕ) → member x need ≡ true → member x (waiting w) ≡ false
  need_new x m = unknown_not_waiting b w x (missing_unknown b w heard x (need_missing x m))

  -- ---- T

  abbrev kept : List ℕ
  kept = trim X (heads b) s.sent

  -- T loses only what is held
  pub trim_kept : (h : ℕ) → held b h ≡ false → member h kept ≡ member h (waiting w)
  unfolding trim
  trim_kept h e =
      let still : below X (heads b) h ≡ false =
      split (below X (heads b) h) (λ k. absurd (true_false (held b h) (below_heads J X b part_x part_b h k) e)) (λ k. k)
      in
      keep_member (λ h. not (below X (heads b) h)) s.sent h ∙ rw still (inv.pending h e)

  -- ---- S

  s_out : (v : Have) → Covers b v → ((h : ℕ) → member h v.last_sync ≡ true → held X h ≡ true)
      → (h : ℕ) → member h (the_s X (v ∷ [])) ≡ true → held b h ≡ false
  unfolding any_contains
  s_out v c f =
      s_least X part_x.good (v ∷ []) (λ h. held b h ≡ false)
      (λ h e n a.
      split (held b h)
      (λ k.
      let here : below b v.last_sync h ≡ false =
      split (below b v.last_sync h)
      (λ l. absurd (true_false (below X v.last_sync h) (below_there J X b part_x part_b v.last_sync f h l) (rw (last_syncs_one v) at n)))
      (λ l. l)
      in
      let in-filter : contains v.filter h ≡ true = c.covers h (not_below_beyond b part_b.good v.last_sync h k here) in
      absurd (true_false (any_contains (filters (v ∷ [])) h) (rw (filters_one v) (or_left (contains v.filter h) false in-filter)) a))
      (λ k. k))
      (λ h d e n m p.
      split (held b h)
      (λ k. absurd (true_false (held b d) (parts_closed J X b part_x part_b h d k m) p))
      (λ k. k))

  -- ---- what is offered

  send_out : (haves : List Have) → Gives b w heard haves → ((h : ℕ) → member h (last_syncs haves) ≡ true → held X h ≡ true)
      → (h : ℕ) → member h (to_send X haves need) ≡ true → held b h ≡ false
  send_out haves (one v e c) f h m =
      either (held X h && member h need) (member h (the_s X (v ∷ []))) (sym (named X part_x.good v [] need h) ∙ m)
      (λ k. need_out h (both (held X h) (member h need) k).1)
      (λ k. s_out v c (λ g n. f g (rw (last_syncs_one v) n)) h k)
  send_out haves (none e) f h m = need_out h (both (held X h) (member h need) (sym (named_none X part_x.good need h) ∙ m)).1

  module _ (haves : List Have) (gives : Gives b w heard haves) (last : (h : ℕ) → member h (last_syncs haves) ≡ true → held X h ≡ true) where
    abbrev offer : List ℕ
    offer = offer_to X heard s haves

    -- the hashes to send that T doesn't have, and all of them
    offer_sent : (h : ℕ) → member h offer ≡ true → member h (to_send X haves need) ≡ true
    offer_sent h m = less_sent X haves need _ h m

    offer_untold : (h : ℕ) → member h offer ≡ true → member h kept ≡ false
    offer_untold h m = less_new X haves need _ h m

    offer_has : (h : ℕ) → member h kept ≡ false → member h (to_send X haves need) ≡ true → member h offer ≡ true
    offer_has h e m = less_named X haves need kept h ∙ and_true _ _ (ap not e) m

    offer_once : Once offer
    offer_once = less_once X haves need _ part_x.good need_once

    -- a need is offered
    need_offered : (x : ℕ) → member x need ≡ true → member x offer ≡ true
    need_offered x m = offer_has x (trim_kept x (need_out x m) ∙ need_new x m) (need_named X part_x.good haves need x (need_held x m) m)

    module _ (reply : List ℕ) (picks : Picks offer reply) where
      offered : (h : ℕ) → member h reply ≡ true → member h offer ≡ true
      offered = few_member reply offer picks.few

      -- a reply has rows of X
      pub reply_held : (h : ℕ) → member h reply ≡ true → held X h ≡ true
      reply_held h m = sent_held X part_x.good haves need h (offer_sent h (offered h m))

      -- that aren't held
      pub reply_out : (h : ℕ) → member h reply ≡ true → held b h ≡ false
      reply_out h m = send_out haves gives last h (offer_sent h (offered h m))

      -- and don't wait
      pub reply_new : (h : ℕ) → member h reply ≡ true → member h (waiting w) ≡ false
      reply_new h m = sym (trim_kept h (reply_out h m)) ∙ offer_untold h (offered h m)

      -- each once
      pub reply_once : Once reply
      reply_once h = omega (arith, picks.few h, offer_once h)

      -- and where something is missing, something goes
      pub missing_answered : (x : ℕ) → member x (missing b w heard) ≡ true → (y : ℕ) × (member y reply ≡ true)
      missing_answered x m = picks.some x (need_offered x (missing_needed x m))
