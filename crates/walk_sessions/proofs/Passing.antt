-- Where a station passes a pick or none: its plan is one of planning's stages over what goes; what may go, and what the walk's reply is then; and the walk of such
-- rounds is a walk. Assumes nothing.
use Prim.Native.Nat.{ℕ, ◌≤◌}
use mathlib.Core.Bool.{true, false}
use mathlib.Core.List.{List, ◌++◌}
use mathlib.Core.Path.{◌≡◌, refl, sym, ap, subst, ◌∙◌}
use native.Mathlib.Nat.{le_trans}
use native.Mathlib.Omega.{arith}
use lib.ListN.{length}
use Rattle.bloom.specs.Have.{Have}
use Rattle.hash_order.specs.Order.{member}
use Rattle.pick.specs.Picking.{pick_checked}
use Rattle.rules.proofs.Cases.{split}
use Rattle.rules.specs.Sizes.{sizes}
use Rattle.session.proofs.GoodLaws.{body_few}
use Rattle.session.proofs.PickPlanLaws.{picked_document, picked_list, checked_list, picked_as, picked_held}
use Rattle.session.proofs.PlanLaws.{planned_held}
use Rattle.session.specs.GoodState.{SoundTable, GoodState}
use Rattle.session.specs.Plan.{Body, haves_for, body_of, plan_body, body_picked, body_checked}
use Rattle.session_state.specs.Session.{State}
use Rattle.table.specs.Table.{Row, GoodTable, held}
use Rattle.table_graph.specs.Graph.{heads}
use Rattle.waiting.specs.Waiting.{Waiting}
use Rattle.walk.proofs.Walk01.{round01_rounds}
use Rattle.walk.specs.Round.{Loads, trim}
use Rattle.walk.specs.Walk.{At, Round, Walk, Walk01, accepted, heard_in, walk_need, offer_to}
use Rattle.walk_picked.proofs.PickedWalkLaws.{picked_few, picked_rounds}
use Rattle.walk_picked.specs.PickedWalk.{WalkPicked}
use Rattle.walk_sessions.specs.Passing.{Passes, plan_passing, AcceptedIn, FitIn, Replies, RoundPassed, WalkPassed, PassedWalks}
use Rattle.walk_sessions.proofs.Answers.{MayGo}
use Rattle.std.specs.Prelude.{Result, Ok}

-- ---- what goes

-- What goes where this is passed.
abbrev pub body_passed : List Row → State → Passes → Body
body_passed t s Passes.all = body_of t s
body_passed t s (Passes.picked rowSizes budget pick) = body_picked t s pick

-- What the check says of it.
abbrev pub check_passed : List Row → State → Passes → Result Unit ℕ
check_passed t s Passes.all = Ok tt
check_passed t s (Passes.picked rowSizes budget pick) = body_checked t s rowSizes budget pick

pub passing_is : (p : Passes) (bits probes : ℕ) (t : List Row) (w : List Waiting) (s : State)
    → plan_passing p bits probes t w s ≡ plan_body bits probes t w s (body_passed t s p) (check_passed t s p)
passing_is Passes.all bits probes t w s = refl
passing_is (Passes.picked rowSizes budget pick) bits probes t w s = refl

-- what goes is the document just where the session asks for that
pub passed_as : (t : List Row) (s : State) (p : Passes) → (body_passed t s p).document ≡ (body_of t s).document
passed_as t s Passes.all = refl
passed_as t s (Passes.picked rowSizes budget pick) = picked_as t s rowSizes budget pick

-- what the check says of it is that it is accepted
pub fine_accepted : (t : List Row) (s : State) (p : Passes) → check_passed t s p ≡ Ok tt → AcceptedIn t s p
fine_accepted t s Passes.all e = tt
fine_accepted t s (Passes.picked rowSizes budget pick) e = e

-- what is accepted may go: a pick names rows, each once
pub may_go : (t : List Row) (s : State) (p : Passes) → SoundTable t → GoodState s → AcceptedIn t s p → MayGo t (body_passed t s p) (check_passed t s p)
may_go t s Passes.all sound g a = record { fine = refl; own = planned_held t sound.good s; few = body_few t s sound g }
may_go t s (Passes.picked rowSizes budget pick) sound g a =
    record { fine = a; own = picked_held t s rowSizes budget pick sound.good a; few = few }
  where
    few : length (body_picked t s pick).hashes ≤ sizes.hashes_to_send
    few =
        split (body_of t s).document
        (λ e. rw (picked_document t s rowSizes budget pick e) (body_few t s sound g))
        (λ e.
        rw (picked_list t s rowSizes budget pick e)
        (le_trans (picked_few t (body_of t s).hashes rowSizes budget pick (sym (checked_list t s rowSizes budget pick e) ∙ a))
        (le_trans sound.few (omega arith))))

-- by list it is the reply to the offer that the session makes
pub passed_replies : (t : List Row) (s : State) (p : Passes) (offer : List ℕ) → AcceptedIn t s p → (body_of t s).document ≡ false → (body_of t s).hashes ≡ offer
    → Replies t p offer (body_passed t s p).hashes
passed_replies t s Passes.all offer a list is = is
passed_replies t s (Passes.picked rowSizes budget pick) offer a list is = (
  ap (λ (b : Body). b.hashes) (picked_list t s rowSizes budget pick list),
  subst (λ l. pick_checked t l rowSizes budget pick ≡ Ok tt) is (sym (checked_list t s rowSizes budget pick list) ∙ a),
)

-- The check accepts a pick that is passed, of this offer.
abbrev pub AcceptedOf : List Row → Passes → List ℕ → Type 0
AcceptedOf t Passes.all offer = Unit {0}
AcceptedOf t (Passes.picked rowSizes budget pick) offer = pick_checked t offer rowSizes budget pick ≡ Ok tt

-- so it is accepted in a session that makes this offer by list
pub offer_accepted : (t : List Row) (s : State) (p : Passes) (offer : List ℕ) → (body_of t s).document ≡ false → (body_of t s).hashes ≡ offer → AcceptedOf t p offer
    → AcceptedIn t s p
offer_accepted t s Passes.all offer list is a = tt
offer_accepted t s (Passes.picked rowSizes budget pick) offer list is a =
    checked_list t s rowSizes budget pick list ∙ subst (λ l. pick_checked t l rowSizes budget pick ≡ Ok tt) (sym is) a

-- ---- rounds

-- a round of such a reply is one in which this is passed
pub passed_round : (p : Passes) (bits probes : ℕ) (A : List Row) (heard l : List ℕ) (s : At) (haves : List Have) (reply : List ℕ) (s' : At)
    → ((h : ℕ) → member h l ≡ true → held s.table h ≡ true)
    → accepted bits probes s.table l ≡ true
    → haves ≡ haves_for bits probes s.table (walk_need heard s) heard l
    → Replies A p (offer_to A heard s haves) reply
    → Loads A s.table s.waits reply s'.table s'.waits
    → s'.sent ≡ trim A (heads s.table) s.sent ++ reply
    → s'.named ≡ s.named ++ reply
    → RoundPassed p bits probes A heard l s haves reply s'
passed_round Passes.all bits probes A heard l s haves reply s' holds set have goes loads sends names =
    record { holds = holds; setting = set; have = have; whole = goes; loads = loads; sends = sends; names = names }
passed_round (Passes.picked rowSizes budget pick) bits probes A heard l s haves reply s' holds set have goes loads sends names = (
  goes.0,
  record {
    holds = holds;
    setting = set;
    have = have;
    picked = subst (λ r. pick_checked A (offer_to A heard s haves) rowSizes budget r ≡ Ok tt) (sym goes.0) goes.1;
    loads = loads;
    sends = sends;
    names = names;
  },
)

passed_rounds : (p : Passes) (bits probes : ℕ) (A : List Row) (heard l : List ℕ) (s : At) (haves : List Have) (reply : List ℕ) (s' : At)
    → GoodTable A → FitIn A p
    → RoundPassed p bits probes A heard l s haves reply s'
    → Round A heard s haves reply s'
passed_rounds Passes.all bits probes A heard l s haves reply s' good fit r = round01_rounds bits probes A heard l s haves reply s' r
passed_rounds (Passes.picked rowSizes budget pick) bits probes A heard l s haves reply s' good fit r = picked_rounds good fit r.1

-- ---- walks

module _ (pass : ℕ → Passes) (bits probes : ℕ → ℕ) (L : ℕ → List ℕ) (A B : List Row) (good : GoodTable A) (fit : (k : ℕ) → FitIn A (pass k)) where
  walks : {k : ℕ} {s : At} → WalkPassed pass bits probes L A B k s → Walk A B k s
  walks WalkPassed.start = Walk.start
  walks (WalkPassed.round {k} {s} {s'} haves reply walk r) =
      Walk.round haves reply (walks walk) (passed_rounds (pass k) (bits k) (probes k) A (heard_in k A) (L k) s haves reply s' good (fit k) r)

whole : {bits probes : ℕ → ℕ} {L : ℕ → List ℕ} {A B : List Row} {k : ℕ} {s : At} → WalkPassed (λ j. Passes.all) bits probes L A B k s → Walk01 bits probes L A B k s
whole WalkPassed.start = Walk01.start
whole (WalkPassed.round haves reply walk r) = Walk01.round haves reply (whole walk) r

picks : {bits probes budget : ℕ → ℕ} {rowSizes : List ℕ} {pick L : ℕ → List ℕ} {A B : List Row} {k : ℕ} {s : At}
    → WalkPassed (λ j. Passes.picked rowSizes (budget j) (pick j)) bits probes L A B k s
    → WalkPicked bits probes budget rowSizes L A B k s
picks WalkPassed.start = WalkPicked.start
picks (WalkPassed.round haves reply walk r) = WalkPicked.round haves reply (picks walk) r.1

pub passed_walks : PassedWalks
passed_walks =
    record {
      whole = λ bits probes L A B k s walk. whole walk;
      picks = λ bits probes budget rowSizes pick L A B k s walk. picks walk;
      walk = λ pass bits probes L A B good fit k s walk. walks pass bits probes L A B good fit walk;
    }
