-- What a plan with a pick says: with a document the plan without one, else the pick, which was accepted and so names rows. Assumes nothing.
use Prim.Native.Nat.{ℕ}
use mathlib.Core.Bool.{Bool, true, false, cond, ◌&&◌}
use mathlib.Core.List.{List, ◌++◌}
use mathlib.Core.Path.{◌≡◌, refl, sym, ap, ap₂, ◌∙◌}
use native.Mathlib.Omega.{arith}
use borrow.Author.Tests.{ltb-true, ltb-false}
use lib.Dec.{ltb}
use lib.ListN.{length}
use Rattle.hash_order.proofs.KeepLaws.{every_member, every_one, hashes_inside}
use Rattle.hash_order.specs.Order.{every, ascend}
use Rattle.pick.proofs.AcceptLaws.{check_tells}
use Rattle.pick.proofs.PlannerLaws.{planner_accepted}
use Rattle.pick.specs.Picking.{pick_checked, pick_of}
use Rattle.rules.proofs.Cases.{split, true_false}
use Rattle.rules.specs.Hash.{AreHashes}
use Rattle.rules.specs.Sizes.{sizes}
use Rattle.rules.specs.declared.refusal.Refusal.{Refusal}
use Rattle.rules.specs.declared.refusal.Refusal.TheVariants.{PastSize, BadPick}
use Rattle.session.specs.Arms.{asked_of}
use Rattle.session.specs.GoodState.{SoundTable, GoodState}
use Rattle.session.specs.PickPlan.{PicksPlan, PlansWithPicks}
use Rattle.session.specs.Plan.{Body, Plan, Planned, heard, need_of, unknown_sync, list_of, body_of, empty, silence, sent_after, plan_of, planned, is_fine, unless_broken, plan_body, plan, body_picked, body_checked, plan_picked, after}
use Rattle.session_state.specs.Session.{State}
use Rattle.session.proofs.Arms.{body_rows}
use Rattle.session.proofs.GoodLaws.{body_good}
use Rattle.session.proofs.PlanLaws.{planned_held, speaks_body, plan_need_past, plan_resets, plan_silent, plan_sent_past, plan_ends, plan_saying}
use Rattle.table.specs.Table.{Row, GoodTable, rows, held}
use Rattle.waiting.specs.Waiting.{Waiting}
use Rattle.std.specs.Prelude.{Result, Ok, Err}

-- ---- what goes, and what the check says of it

module _ (t : List Row) (s : State) (rowSizes : List ℕ) (budget : ℕ) (pick : List ℕ) where
  pub picked_document : (body_of t s).document ≡ true → body_picked t s pick ≡ body_of t s
  unfolding body_picked
  picked_document e = rw e

  pub picked_list : (body_of t s).document ≡ false → body_picked t s pick ≡ list_of pick
  unfolding body_picked
  picked_list e = rw e

  pub checked_document : (body_of t s).document ≡ true → body_checked t s rowSizes budget pick ≡ Ok tt
  unfolding body_checked
  checked_document e = rw e

  pub checked_list : (body_of t s).document ≡ false → body_checked t s rowSizes budget pick ≡ pick_checked t (body_of t s).hashes rowSizes budget pick
  unfolding body_checked
  checked_list e = rw e

  -- what goes is the document just where the session asks for that
  pub picked_as : (body_picked t s pick).document ≡ (body_of t s).document
  picked_as =
      split (body_of t s).document
      (λ e. ap (λ (b : Body). b.document) (picked_document e))
      (λ e. ap (λ (b : Body). b.document) (picked_list e) ∙ sym e)

  -- what is accepted names rows of the table
  pub picked_held : GoodTable t → body_checked t s rowSizes budget pick ≡ Ok tt → every (held t) (body_picked t s pick).hashes ≡ true
  picked_held good fine =
      split (body_of t s).document
      (λ e. rw (picked_document e) (planned_held t good s))
      (λ e.
      rw (picked_list e)
      (every_one (held t) pick
      (λ h m. (((check_tells t (body_of t s).hashes rowSizes budget pick).0 (sym (checked_list e) ∙ fine)).listed h m).0)))

  -- which are hashes
  pub picked_hashes : GoodTable t → AreHashes (rows t) → body_checked t s rowSizes budget pick ≡ Ok tt → AreHashes (body_picked t s pick).hashes
  unfolding held
  picked_hashes good are fine =
      hashes_inside (body_picked t s pick).hashes (rows t) are
      (λ h m. every_member (held t) (body_picked t s pick).hashes (picked_held good fine) h m)

-- all of what the session asks for, as a pick
whole_body : (t : List Row) (s : State) → body_picked t s (body_of t s).hashes ≡ body_of t s
unfolding body_picked
whole_body t s = is (body_of t s).document (body_of t s).hashes
  where
    is : (d : Bool) (hs : List ℕ) → ◌≡◌ {A = Body} (cond d (record { document = d; hashes = hs }) (list_of hs)) (record { document = d; hashes = hs })
    is true hs = refl
    is false hs = refl

-- ---- 17

module _ (bits probes : ℕ) (t : List Row) (w : List Waiting) (s : State) (b : Body) where
  silent_other : {A : Type 0} {r : Refusal} → Planned.silent ≡ Planned.refused r → A
  silent_other e = absurd (let z : ◌≡◌ {A = ℕ} 0 1 = cc in omega arith)

  reset_other : {A : Type 0} {p : Plan} {r : Refusal} → Planned.reset p ≡ Planned.refused r → A
  reset_other e = absurd (let z : ◌≡◌ {A = ℕ} 0 1 = cc in omega arith)

  past_other : {A : Type 0} {place : ℕ} → Planned.refused (PastSize 0) ≡ Planned.refused (BadPick place) → A
  past_other e = absurd (let z : ◌≡◌ {A = ℕ} 0 1 = cc in omega arith)

  broken : (c : Result Unit ℕ) (q : Plan) (n : State) (place : ℕ) → unless_broken c (Planned.says q n) ≡ Planned.refused (BadPick place) → c ≡ Err place
  broken (Ok tt) q n place e = absurd (let z : ◌≡◌ {A = ℕ} 0 1 = cc in omega arith)
  broken (Err p) q n place e = let is : p ≡ place = cc in ap Err is

  -- it is the check that gives it
  refused_broken : (c : Result Unit ℕ) (place : ℕ) → plan_body bits probes t w s b c ≡ Planned.refused (BadPick place) → c ≡ Err place
  refused_broken c place e =
      split (ltb sizes.hashes (length (need_of t w s.read_only (heard s.their_heads))))
      (λ x. past_other (sym (plan_need_past bits probes t w s b c (ltb-true _ _ x)) ∙ e))
      (λ x.
      let few = ltb-false _ _ x in
      split (unknown_sync t s.their_have)
      (λ y. reset_other (sym (plan_resets bits probes t w s b c few y) ∙ e))
      (λ y.
      split (silence t s (is_fine c && empty b.hashes))
      (λ z. silent_other (sym (plan_silent bits probes t w s b c few y z) ∙ e))
      (λ z.
      split (ltb sizes.sent_hashes (length (sent_after s b)))
      (λ v. past_other (sym (plan_sent_past bits probes t w s b c few y z (ltb-true _ _ v)) ∙ e))
      (λ v.
      broken c (plan_of bits probes t w s b) (planned t s b) place (sym (plan_ends bits probes t w s b c few y z (ltb-false _ _ v)) ∙ e)))))

  -- ---- silence

  refused_unsilent : {A : Type 0} {r : Refusal} → Planned.refused r ≡ Planned.silent → A
  refused_unsilent e = absurd (let z : ◌≡◌ {A = ℕ} 0 1 = cc in omega arith)

  reset_unsilent : {A : Type 0} {p : Plan} → Planned.reset p ≡ Planned.silent → A
  reset_unsilent e = absurd (let z : ◌≡◌ {A = ℕ} 0 1 = cc in omega arith)

  ends_unsilent : {A : Type 0} (c : Result Unit ℕ) (q : Plan) (n : State) → unless_broken c (Planned.says q n) ≡ Planned.silent → A
  ends_unsilent (Ok tt) q n e = absurd (let z : ◌≡◌ {A = ℕ} 0 1 = cc in omega arith)
  ends_unsilent (Err place) q n e = refused_unsilent e

  -- a plan is silent where the tests of silence say so
  silent_tested : (c : Result Unit ℕ) → plan_body bits probes t w s b c ≡ Planned.silent → silence t s (is_fine c && empty b.hashes) ≡ true
  silent_tested c e =
      split (ltb sizes.hashes (length (need_of t w s.read_only (heard s.their_heads))))
      (λ x. refused_unsilent (sym (plan_need_past bits probes t w s b c (ltb-true _ _ x)) ∙ e))
      (λ x.
      let few = ltb-false _ _ x in
      split (unknown_sync t s.their_have)
      (λ y. reset_unsilent (sym (plan_resets bits probes t w s b c few y) ∙ e))
      (λ y.
      split (silence t s (is_fine c && empty b.hashes))
      (λ z. z)
      (λ z.
      split (ltb sizes.sent_hashes (length (sent_after s b)))
      (λ v. refused_unsilent (sym (plan_sent_past bits probes t w s b c few y z (ltb-true _ _ v)) ∙ e))
      (λ v.
      ends_unsilent c (plan_of bits probes t w s b) (planned t s b) (sym (plan_ends bits probes t w s b c few y z (ltb-false _ _ v)) ∙ e)))))

  -- and they don't where a pick breaks a rule and nothing is in flight
  broken_told : (c : Result Unit ℕ) (place : ℕ) → c ≡ Err place → s.in_flight ≡ false → plan_body bits probes t w s b c ≡ Planned.silent → ⊥
  broken_told c place is lands e =
      true_false (silence t s (is_fine c && empty b.hashes)) (silent_tested c e)
      (speaks_body t s (is_fine c && empty b.hashes) lands (ap (λ (k : Result Unit ℕ). is_fine k && empty b.hashes) is))

-- ---- the plan

module _ (bits probes : ℕ) (rowSizes : List ℕ) (budget : ℕ) (t : List Row) (w : List Waiting) (s : State) where
  document_plans : (pick : List ℕ) → (body_of t s).document ≡ true → plan_picked bits probes rowSizes budget t w s pick ≡ plan bits probes t w s
  document_plans pick e =
      ap₂ (plan_body bits probes t w s) (picked_document t s rowSizes budget pick e) (checked_document t s rowSizes budget pick e)

  whole_plans : body_checked t s rowSizes budget (body_of t s).hashes ≡ Ok tt
      → plan_picked bits probes rowSizes budget t w s (body_of t s).hashes ≡ plan bits probes t w s
  whole_plans e = ap₂ (plan_body bits probes t w s) (whole_body t s) e

  pick_named : (pick : List ℕ) (p : Plan) (s' : State) → (body_of t s).document ≡ false
      → plan_picked bits probes rowSizes budget t w s pick ≡ Planned.says p s'
      → (p.body ≡ list_of pick) × (s'.sent_hashes ≡ ascend (pick ++ s.sent_hashes)) × (pick_checked t (body_of t s).hashes rowSizes budget pick ≡ Ok tt)
  unfolding plan_of planned sent_after
  pick_named pick p s' d e =
      let said = plan_saying bits probes t w s (body_picked t s pick) (body_checked t s rowSizes budget pick) p s' e in
      let body : body_picked t s pick ≡ list_of pick = picked_list t s rowSizes budget pick d in (
        ap (λ (q : Plan). q.body) said.message ∙ body,
        ap (λ (n : State). n.sent_hashes) said.session ∙ ap (λ (b : Body). ascend (b.hashes ++ s.sent_hashes)) body,
        sym (checked_list t s rowSizes budget pick d) ∙ said.fine,
      )

  pick_refused : (pick : List ℕ) (place : ℕ) → plan_picked bits probes rowSizes budget t w s pick ≡ Planned.refused (BadPick place)
      → ((body_of t s).document ≡ false) × (pick_checked t (body_of t s).hashes rowSizes budget pick ≡ Err place)
  pick_refused pick place e =
      let is : body_checked t s rowSizes budget pick ≡ Err place = refused_broken bits probes t w s _ _ place e in
      split (body_of t s).document
      (λ d. absurd (true_false (is_fine (Ok tt)) refl (ap is_fine (sym (checked_document t s rowSizes budget pick d) ∙ is))))
      (λ d. (d, sym (checked_list t s rowSizes budget pick d) ∙ is))

  planner_checked : GoodTable t → length rowSizes ≡ length t → body_checked t s rowSizes budget (pick_of t (body_of t s).hashes rowSizes budget) ≡ Ok tt
  planner_checked good each =
      split (body_of t s).document
      (λ d. checked_document t s rowSizes budget _ d)
      (λ d. checked_list t s rowSizes budget _ d ∙ planner_accepted t (body_of t s).hashes rowSizes budget good each)

  pick_rows : (pick : List ℕ) → GoodTable t → every (held t) (asked_of (plan_picked bits probes rowSizes budget t w s pick)) ≡ true
  pick_rows pick good =
      body_rows bits probes t w s (body_picked t s pick) (body_checked t s rowSizes budget pick) (picked_held t s rowSizes budget pick good)

  -- a message leaves a good session
  pub picked_good : (pick : List ℕ) → SoundTable t → GoodState s
      → (q : Plan) (s' : State) → plan_picked bits probes rowSizes budget t w s pick ≡ Planned.says q s'
      → GoodState s'
  picked_good pick sound g q s' e =
      let said = plan_saying bits probes t w s (body_picked t s pick) (body_checked t s rowSizes budget pick) q s' e in
      body_good bits probes t w s sound g (body_picked t s pick) (body_checked t s rowSizes budget pick)
      (picked_hashes t s rowSizes budget pick sound.good sound.are said.fine) q s' e

  leaves_good : (pick : List ℕ) → SoundTable t → GoodState s → (x : Planned) → plan_picked bits probes rowSizes budget t w s pick ≡ x → GoodState (after x s)
  leaves_good pick sound g (Planned.refused r) e = g
  leaves_good pick sound g Planned.silent e = g
  leaves_good pick sound g (Planned.reset p) e = g
  leaves_good pick sound g (Planned.says q s') e = picked_good pick sound g q s' e

  picks_plan : PicksPlan bits probes rowSizes budget t w s
  picks_plan =
      record {
        document = document_plans;
        whole = whole_plans;
        named = pick_named;
        refused = pick_refused;
        told = λ pick place. broken_told bits probes t w s (body_picked t s pick) (body_checked t s rowSizes budget pick) place;
        planner = planner_checked;
        rows = pick_rows;
        good = λ pick sound g. leaves_good pick sound g _ refl;
      }

pub plans_with_picks : PlansWithPicks
plans_with_picks = picks_plan
