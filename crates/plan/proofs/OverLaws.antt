-- A plan by the setting that was answered, with a pick or without one, is what 01 and 02 say of it: the crate's setting, bits and probes that are passed,
-- those of a list, and a pick. Assumes nothing.
use Prim.Native.Nat.{ℕ}
use mathlib.Core.Bool.{true, false}
use mathlib.Core.List.{List, []}
use mathlib.Core.Path.{◌≡◌, refl, sym, ◌∙◌}
use Rattle.bloom.specs.Filter.{default_bits, default_probes, SettingGood, pair_good}
use Rattle.pick.specs.declared.radio.Radio.{Radio}
use Rattle.plan_count.specs.Internal.PlanCount.{going_of, found_of}
use Rattle.rules.specs.Hash.{hashes_at}
use Rattle.rules.specs.Passed.{passed_up_to, passed_hashes, after_passed}
use Rattle.rules.specs.declared.refusal.Refusal.TheVariants.{BadNumbers}
use Rattle.session.specs.Plan.{Planned, body_of, body_picked, body_checked, plan_body, plan, plan_picked}
use Rattle.session.specs.PlanCall.{Buffers, plan_after, plan_with, plan_passed, plan_by, plan_picked_by, planned_answer, planned_roomed, put_into, planned_lists, PlanCalled}
use Rattle.session_state.specs.Session.{State}
use Rattle.session_state.specs.Value.{Lent, state_of}
use Rattle.session_state.specs.declared.session.Session.{Session}
use Rattle.settings.proofs.HistoryLaws.{allowed_pair, history}
use Rattle.settings.specs.Settings.{crate_choice, setting_for}
use Rattle.settings.specs.declared.choice.Choice.{Choice}
use Rattle.table.specs.Table.{Row}
use Rattle.table.specs.TableBytes.{table_of}
use Rattle.waiting.specs.Waiting.{Waiting}
use Rattle.waiting.specs.WaitingBytes.{waiting_of}
use Rattle.plan.specs.Internal.PlanChecks.{AnswerGood, plan_over}
use Rattle.std.specs.Prelude.{Result, Ok, Err}
use Rattle.rules.specs.declared.refusal.Refusal.{Refusal}

-- ---- with a pick, and without one

module _ (r : Radio) (rowSizes : List ℕ) (t : List Row) (w : List Waiting) (s : State) where
  over_whole : (c : Choice) → r.limited ≡ false → plan_over (Ok c) r rowSizes [] t w s ≡ plan c.bits c.probes t w s
  unfolding plan_over going_of found_of after_passed passed_up_to
  over_whole c e = rw e

  picked_said : (c : Choice) (pick : List ℕ) → r.limited ≡ true
      → plan_body c.bits c.probes t w s (going_of r (body_of t s) pick) (found_of r t (body_of t s) rowSizes pick)
      ≡ plan_picked c.bits c.probes rowSizes r.budget t w s pick
  unfolding going_of found_of body_picked body_checked
  picked_said c pick e = rw e

  passed_same : (p : Result ℕ Refusal) (f g : ℕ → Planned) → ((k : ℕ) → f k ≡ g k) → after_passed p Planned.refused f ≡ after_passed p Planned.refused g
  unfolding after_passed
  passed_same (Ok k) f g e = e k
  passed_same (Err x) f g e = refl

  over_picked : (c : Choice) (pick : List ℕ) → r.limited ≡ true
      → plan_over (Ok c) r rowSizes pick t w s
      ≡ after_passed (passed_hashes pick) Planned.refused (λ k. plan_picked c.bits c.probes rowSizes r.budget t w s (hashes_at pick 0 k))
  unfolding plan_over
  over_picked c pick e = passed_same (passed_hashes pick) _ _ (λ k. picked_said c (hashes_at pick 0 k) e)

module _ (r : Radio) (rowSizes : List ℕ) (s : Session) (l : Lent) (table index waiting : List ℕ) where
  -- all goes
  pub whole_plans : (a : Result Choice Refusal) → r.limited ≡ false
      → plan_after s l table index waiting (plan_over a r rowSizes [] (table_of table) (waiting_of waiting) (state_of s l)) ≡ plan_by a s l table index waiting
  unfolding plan_by plan_with plan_over
  whole_plans (Ok c) e = rw (over_whole r rowSizes (table_of table) (waiting_of waiting) (state_of s l) c e)
  whole_plans (Err x) e = refl

  -- a pick goes
  pub pick_plans : (a : Result Choice Refusal) (pick : List ℕ) → r.limited ≡ true
      → plan_after s l table index waiting (plan_over a r rowSizes pick (table_of table) (waiting_of waiting) (state_of s l))
      ≡ plan_picked_by a rowSizes r.budget pick s l table index waiting
  unfolding plan_picked_by plan_over
  pick_plans (Ok c) pick e = rw (over_picked r rowSizes (table_of table) (waiting_of waiting) (state_of s l) c pick e)
  pick_plans (Err x) pick e = refl

-- ---- bits and probes that are passed, and those of a list

module _ (bits probes : ℕ) (s : Session) (l : Lent) (table index waiting : List ℕ) where
  pub passed_bad : pair_good bits probes ≡ false → (b : Buffers) → PlanCalled (plan_passed bits probes s l table index waiting) l l b b (Err BadNumbers)
  unfolding plan_passed planned_answer planned_roomed put_into planned_lists
  passed_bad e b = rw e (record { answer = refl; buffers = refl; lists = refl })

  pub passed_good_lem : pair_good bits probes ≡ true → (t : ℕ)
      → plan_passed bits probes s l table index waiting ≡ plan_by (Ok (record { bits = bits; probes = probes; read_only = t })) s l table index waiting
  unfolding plan_passed plan_by
  passed_good_lem e t = rw e

-- the crate's choice is 10 and 7
pub crate_plans : (c : Choice) (s : Session) (l : Lent) (table index waiting : List ℕ) → c ≡ crate_choice
    → plan_by (Ok c) s l table index waiting ≡ plan_with default_bits default_probes s l table index waiting
unfolding plan_by
crate_plans c s l table index waiting e = rw e

pub chosen_good : (c : Choice) → SettingGood c.bits c.probes → {a : Result Choice Refusal} → a ≡ Ok c → AnswerGood a
chosen_good c good e =
    record {
      each = λ k f.
          let same : c ≡ k = (let z = sym e ∙ f in cc) in
          rw same at good;
    }

-- what a list answers is allowed
pub listed_good : (settings : List ℕ) (station version : ℕ) {a : Result Choice Refusal} → a ≡ setting_for settings station version → AnswerGood a
listed_good settings station version e = record { each = λ c f. allowed_pair c (history.within settings station version c (sym e ∙ f)) }

-- and what was answered is it
module _ (s : Session) (l : Lent) (table index waiting : List ℕ) {a b : Result Choice Refusal} where
  pub by_same : a ≡ b → plan_by a s l table index waiting ≡ plan_by b s l table index waiting
  by_same e = rw e

  pub pick_same_answer : (rowSizes : List ℕ) (budget : ℕ) (pick : List ℕ) → a ≡ b
      → plan_picked_by a rowSizes budget pick s l table index waiting ≡ plan_picked_by b rowSizes budget pick s l table index waiting
  pick_same_answer rowSizes budget pick e = rw e
