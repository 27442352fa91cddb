-- The catch-up walk with picks. 02, M-110: in demand 3 a reply is then an accepted pick, under the premise that every change fits the budget; the m + 1 rounds
-- and the m rows stay.
use Rattle.std.specs.Prelude.{ℕ, suc, ◌≤◌, ◌<◌, true, List, ◌++◌, ◌≡◌, length, get_or, Ok}
use Rattle.bloom.specs.Have.{Have}
use Rattle.hash_order.specs.Order.{member, every}
use Rattle.pick.specs.Picking.{pick_checked, CheckTells, PlannerAccepted}
use Rattle.session.specs.Plan.{haves_for}
use Rattle.table.specs.Table.{Row, GoodTable, held}
use Rattle.table_graph.specs.Graph.{heads}
use Rattle.walk.specs.Round.{Part, trim, Picks, Loads}
use Rattle.walk.specs.Walk.{At, starting, Walk, Demand3, heard_in, walk_need, offer_to, accepted, holds_all, lacking}

-- One size a row, and every change fits the budget.
pub record AllFit (t : List Row) (rowSizes : List ℕ) (budget : ℕ) : Type 0 where
  pub each : length rowSizes ≡ length t
  pub fit : (i : ℕ) → i < length t → get_or rowSizes i 0 ≤ budget

-- An accepted pick is then one of the replies that the walk allows: no hash more often than in the offer, and something if there is something.
abbrev pub AcceptedPicks : Type 0
AcceptedPicks = (t : List Row) (list rowSizes : List ℕ) (budget : ℕ) (pick : List ℕ) → GoodTable t
    → every (held t) list ≡ true
    → AllFit t rowSizes budget
    → pick_checked t list rowSizes budget pick ≡ Ok tt
    → Picks list pick

-- 01's round, in which an accepted pick of the offer goes; T gains only the pick.
pub record RoundPicked (bits probes : ℕ) (rowSizes : List ℕ) (budget : ℕ) (A : List Row) (heard l : List ℕ) (s : At) (haves : List Have) (reply : List ℕ) (s' : At)
    : Type 0 where
  pub holds : (h : ℕ) → member h l ≡ true → held s.table h ≡ true
  pub setting : accepted bits probes s.table l ≡ true
  pub have : haves ≡ haves_for bits probes s.table (walk_need heard s) heard l
  pub picked : pick_checked A (offer_to A heard s haves) rowSizes budget reply ≡ Ok tt
  pub loads : Loads A s.table s.waits reply s'.table s'.waits
  pub sends : s'.sent ≡ trim A (heads s.table) s.sent ++ reply
  pub names : s'.named ≡ s.named ++ reply

-- So many such rounds; bits, probes, last-sync hashes and the budget may be others each round, the sizes are those of A's rows.
pub data WalkPicked (bits probes budget : ℕ → ℕ) (rowSizes : List ℕ) (L : ℕ → List ℕ) (A B : List Row) : ℕ → At → Type 0 where
  start : WalkPicked bits probes budget rowSizes L A B 0 (starting B)
  round : {k : ℕ} {s s' : At} (haves : List Have) (reply : List ℕ) → WalkPicked bits probes budget rowSizes L A B k s
      → RoundPicked (bits k) (probes k) rowSizes (budget k) A (heard_in k A) (L k) s haves reply s'
      → WalkPicked bits probes budget rowSizes L A B (suc k) s'

-- It is a walk, so demand 3 holds of it word for word.
abbrev pub PickedWalks : Type 0
PickedWalks = (bits probes budget : ℕ → ℕ) (rowSizes : List ℕ) (L : ℕ → List ℕ) (A B : List Row) → GoodTable A → Part A B
    → ((k : ℕ) → AllFit A rowSizes (budget k))
    → (k : ℕ) (s : At) → WalkPicked bits probes budget rowSizes L A B k s
    → Walk A B k s × Demand3 A B

-- After m + 1 rounds B holds A, and the replies have named m rows.
abbrev pub PickedEnds : Type 0
PickedEnds = (bits probes budget : ℕ → ℕ) (rowSizes : List ℕ) (L : ℕ → List ℕ) (A B : List Row) → GoodTable A → Part A B
    → ((k : ℕ) → AllFit A rowSizes (budget k))
    → (k : ℕ) (s : At) → WalkPicked bits probes budget rowSizes L A B k s
    → suc (lacking A B) ≤ k
    → (holds_all A s.table ≡ true) × (length s.named ≡ lacking A B)

-- And it can always go on, with the planner's own pick.
abbrev pub PickedGoes : Type 0
PickedGoes = (bits probes budget : ℕ → ℕ) (rowSizes : List ℕ) (L : ℕ → List ℕ) (A B : List Row) → GoodTable A → length rowSizes ≡ length A
    → (k : ℕ) (s : At) → WalkPicked bits probes budget rowSizes L A B k s
    → accepted (bits k) (probes k) s.table (L k) ≡ true
    → ((h : ℕ) → member h (L k) ≡ true → held s.table h ≡ true)
    → (s' : At) × WalkPicked bits probes budget rowSizes L A B (suc k) s'

-- M-110's theorem.
pub record M110 : Type 0 where
  -- the check accepts what 02 says, and always the planner's own pick
  pub check : CheckTells
  pub planner : PlannerAccepted
  -- demand 3 with picks
  pub picks : AcceptedPicks
  pub walks : PickedWalks
  pub ends : PickedEnds
  pub goes : PickedGoes
