-- What a station passes when it answers, and the walk that it walks then. 02, M-110: a pick of what it is to send, where its radio takes no more; or none, so that
-- all goes, as in 01.
use Rattle.std.specs.Prelude.{ℕ, suc, List, ◌≡◌, Ok}
use Rattle.bloom.specs.Have.{Have}
use Rattle.pick.specs.Picking.{pick_checked}
use Rattle.session.specs.Plan.{Planned, plan, body_checked, plan_picked}
use Rattle.session_state.specs.Session.{State}
use Rattle.table.specs.Table.{Row, GoodTable}
use Rattle.waiting.specs.Waiting.{Waiting}
use Rattle.walk.specs.Walk.{At, starting, Walk, Round01, Walk01, heard_in}
use Rattle.walk_picked.specs.PickedWalk.{AllFit, RoundPicked, WalkPicked}

-- No pick; or one size a row, a budget and a pick.
pub data Passes : Type 0 where
  all : Passes
  picked : List ℕ → ℕ → List ℕ → Passes

-- The plan with it.
abbrev pub plan_passing : Passes → ℕ → ℕ → List Row → List Waiting → State → Planned
plan_passing Passes.all bits probes t w s = plan bits probes t w s
plan_passing (Passes.picked rowSizes budget pick) bits probes t w s = plan_picked bits probes rowSizes budget t w s pick

-- A pick that is passed is accepted, of what the session asks for by list; so 17 isn't answered.
abbrev pub AcceptedIn : List Row → State → Passes → Type 0
AcceptedIn t s Passes.all = Unit {0}
AcceptedIn t s (Passes.picked rowSizes budget pick) = body_checked t s rowSizes budget pick ≡ Ok tt

-- Where a pick is passed, there is one size a row and every change fits the budget.
abbrev pub FitIn : List Row → Passes → Type 0
FitIn A Passes.all = Unit {0}
FitIn A (Passes.picked rowSizes budget pick) = AllFit A rowSizes budget

-- The reply that goes of an offer: all of it, as in 01; or the pick, which the check accepts.
abbrev pub Replies : List Row → Passes → List ℕ → List ℕ → Type 0
Replies A Passes.all offer reply = reply ≡ offer
Replies A (Passes.picked rowSizes budget pick) offer reply = (reply ≡ pick) × (pick_checked A offer rowSizes budget pick ≡ Ok tt)

-- A round in which this is passed: 01's own, or one in which the pick goes.
abbrev pub RoundPassed : Passes → ℕ → ℕ → List Row → List ℕ → List ℕ → At → List Have → List ℕ → At → Type 0
RoundPassed Passes.all bits probes A heard l s haves reply s' = Round01 bits probes A heard l s haves reply s'
RoundPassed (Passes.picked rowSizes budget pick) bits probes A heard l s haves reply s' =
    (reply ≡ pick) × RoundPicked bits probes rowSizes budget A heard l s haves reply s'

-- So many rounds, in each of which this is passed.
pub data WalkPassed (pass : ℕ → Passes) (bits probes : ℕ → ℕ) (L : ℕ → List ℕ) (A B : List Row) : ℕ → At → Type 0 where
  start : WalkPassed pass bits probes L A B 0 (starting B)
  round : {k : ℕ} {s s' : At} (haves : List Have) (reply : List ℕ) → WalkPassed pass bits probes L A B k s
      → RoundPassed (pass k) (bits k) (probes k) A (heard_in k A) (L k) s haves reply s'
      → WalkPassed pass bits probes L A B (suc k) s'

-- What such a walk is.
pub record PassedWalks : Type 0 where
  -- without picks 01's own
  pub whole : (bits probes : ℕ → ℕ) (L : ℕ → List ℕ) (A B : List Row) (k : ℕ) (s : At) → WalkPassed (λ j. Passes.all) bits probes L A B k s
      → Walk01 bits probes L A B k s
  -- with a pick in each round the walk with picks
  pub picks : (bits probes budget : ℕ → ℕ) (rowSizes : List ℕ) (pick L : ℕ → List ℕ) (A B : List Row) (k : ℕ) (s : At)
      → WalkPassed (λ j. Passes.picked rowSizes (budget j) (pick j)) bits probes L A B k s
      → WalkPicked bits probes budget rowSizes L A B k s
  -- and where every change fits, a walk, of which demand 3 holds
  pub walk : (pass : ℕ → Passes) (bits probes : ℕ → ℕ) (L : ℕ → List ℕ) (A B : List Row) → GoodTable A → ((k : ℕ) → FitIn A (pass k))
      → (k : ℕ) (s : At) → WalkPassed pass bits probes L A B k s
      → Walk A B k s
