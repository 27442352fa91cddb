-- A call of planning has one answer and leaves one content of each buffer and list; and what it leaves where nothing is said. Assumes nothing.
use mathlib.Core.Path.{◌≡◌, refl, sym, ◌∙◌}
use Rattle.rules.specs.declared.refusal.Refusal.{Refusal}
use Rattle.session.specs.Plan.{Plan, Planned}
use Rattle.session_state.specs.Value.{Lent}
use Rattle.session.specs.PlanCall.{Buffers, put_into, planned_lists, PlanCalled}
use Rattle.session.specs.declared.plan_answer.PlanAnswer.{PlanAnswer}
use Rattle.std.specs.Prelude.{Result}

pub plan_called_once : {p : Planned} {l l₁ l₂ : Lent} {before after₁ after₂ : Buffers} {r₁ r₂ : Result PlanAnswer Refusal} → PlanCalled p l l₁ before after₁ r₁
    → PlanCalled p l l₂ before after₂ r₂
    → (r₁ ≡ r₂) × ((after₁ ≡ after₂) × (l₁ ≡ l₂))
plan_called_once x y = (x.answer ∙ sym y.answer, (x.buffers ∙ sym y.buffers, x.lists ∙ sym y.lists))

module _ (b : Buffers) (l : Lent) where
  -- a refusal leaves all buffers and lists as they were
  pub plan_refused_leaves : (r : Refusal) → (put_into (Planned.refused r) b ≡ b) × (planned_lists (Planned.refused r) l ≡ l)
  unfolding put_into planned_lists
  plan_refused_leaves r = (refl, refl)

  -- and so does silence
  pub silence_leaves : (put_into Planned.silent b ≡ b) × (planned_lists Planned.silent l ≡ l)
  unfolding put_into planned_lists
  silence_leaves = (refl, refl)

  -- a reset leaves the session's lists, last-sent heads and sent hashes too
  pub reset_leaves : (p : Plan) → planned_lists (Planned.reset p) l ≡ l
  unfolding planned_lists
  reset_leaves p = refl
