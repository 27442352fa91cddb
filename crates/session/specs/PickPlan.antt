-- What is promised of a plan with a pick. 02, M-110: only picked hashes join the sent hashes, document bodies stay whole, and 17 with its place for a pick that
-- isn't accepted.
use Rattle.std.specs.Prelude.{ℕ, true, false, List, ◌++◌, ◌≡◌, length, Ok, Err}
use Rattle.hash_order.specs.Order.{every, ascend}
use Rattle.pick.specs.Picking.{pick_checked, pick_of}
use Rattle.rules.specs.declared.refusal.Refusal.TheVariants.{BadPick}
use Rattle.session.specs.Arms.{asked_of}
use Rattle.session.specs.GoodState.{SoundTable, GoodState}
use Rattle.session.specs.Plan.{Plan, Planned, list_of, body_of, plan, body_checked, plan_picked, after}
use Rattle.session_state.specs.Session.{State}
use Rattle.table.specs.Table.{Row, GoodTable, held}
use Rattle.waiting.specs.Waiting.{Waiting}

-- A promise a line, for any bits, probes, sizes and budget, any tables and any session.
pub record PicksPlan (bits probes : ℕ) (rowSizes : List ℕ) (budget : ℕ) (t : List Row) (w : List Waiting) (s : State) : Type 0 where
  -- with a document no pick is looked at: the plan without one
  pub document : (pick : List ℕ) → (body_of t s).document ≡ true → plan_picked bits probes rowSizes budget t w s pick ≡ plan bits probes t w s
  -- with a pick that is the whole list, where that is accepted, too
  pub whole : body_checked t s rowSizes budget (body_of t s).hashes ≡ Ok tt
      → plan_picked bits probes rowSizes budget t w s (body_of t s).hashes ≡ plan bits probes t w s
  -- what a message names by list is the pick, only that joins the sent hashes, and it was accepted
  pub named : (pick : List ℕ) (p : Plan) (s' : State) → (body_of t s).document ≡ false
      → plan_picked bits probes rowSizes budget t w s pick ≡ Planned.says p s'
      → (p.body ≡ list_of pick) × (s'.sent_hashes ≡ ascend (pick ++ s.sent_hashes)) × (pick_checked t (body_of t s).hashes rowSizes budget pick ≡ Ok tt)
  -- 17 is answered only for a pick that isn't accepted, with its place, and with a document for none
  pub refused : (pick : List ℕ) (place : ℕ) → plan_picked bits probes rowSizes budget t w s pick ≡ Planned.refused (BadPick place)
      → ((body_of t s).document ≡ false) × (pick_checked t (body_of t s).hashes rowSizes budget pick ≡ Err place)
  -- and a host whose pick isn't accepted, even an empty one, learns of it: there is no silence where nothing is in flight
  pub told : (pick : List ℕ) (place : ℕ) → body_checked t s rowSizes budget pick ≡ Err place → s.in_flight ≡ false
      → plan_picked bits probes rowSizes budget t w s pick ≡ Planned.silent
      → ⊥
  -- the planner's own pick, of what the session asks for and with one size a row, is accepted
  pub planner : GoodTable t → length rowSizes ≡ length t → body_checked t s rowSizes budget (pick_of t (body_of t s).hashes rowSizes budget) ≡ Ok tt
  -- 02, M-105: each hash whose change it asks the host for is a row of the table that was lent
  pub rows : (pick : List ℕ) → GoodTable t → every (held t) (asked_of (plan_picked bits probes rowSizes budget t w s pick)) ≡ true
  -- a good session stays good
  pub good : (pick : List ℕ) → SoundTable t → GoodState s → GoodState (after (plan_picked bits probes rowSizes budget t w s pick) s)

-- What is to be shown.
abbrev pub PlansWithPicks : Type 0
PlansWithPicks = (bits probes : ℕ) (rowSizes : List ℕ) (budget : ℕ) (t : List Row) (w : List Waiting) (s : State) → PicksPlan bits probes rowSizes budget t w s
