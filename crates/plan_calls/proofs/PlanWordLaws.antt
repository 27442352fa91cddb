-- Planning as a call has one answer, and leaves one session and one content of every list.
use Prim.Native.Nat.{ℕ}
use mathlib.Core.List.{List, [], ◌∷◌}
use mathlib.Core.Path.{◌≡◌, sym, ap, ◌∙◌}
use mir.Val.{bool_byte}
use Rattle.session.specs.Plan.{Planned}
use Rattle.session.specs.PlanCall.{Buffers, PlanCalled}
use Rattle.session.specs.declared.plan_answer.PlanAnswer.{PlanAnswer}
use Rattle.session.specs.declared.plan_answer.Stated.{Stated}
use Rattle.call_words.proofs.WordLaws.{flag_byte}
use Rattle.session_state.specs.Value.{Lent}
use Rattle.plan_calls.specs.PlanWords.{version_number, stated_words, planned_words, planned_session, PlanAnswered}
use Rattle.std.specs.Prelude.{Result}
use Rattle.rules.specs.declared.refusal.Refusal.{Refusal}

-- the words as code puts them together
pub stated_made : (what : ℕ) (p : Stated) (v : ℕ)
    → v ≡ version_number p.version
    → 0 ∷ what ∷ v ∷ p.flags.0 ∷ bool_byte p.document ∷ p.heads ∷ p.need ∷ p.haves ∷ 0 ∷ p.syncs
    ∷ p.filter.entries ∷ p.filter.bits ∷ p.filter.probes ∷ p.filter.place ∷ p.filter.size ∷ p.hashes ∷ []
    ≡ stated_words what p
stated_made what p v e = rw (e, flag_byte p.document)

module _ {p : Planned} {session₀ session₁ : List ℕ} {l l' : Lent} {before after : Buffers} {words : List ℕ} where
  pub plan_answered : (r : Result PlanAnswer Refusal) → PlanCalled p l l' before after r
      → session₁ ≡ planned_session r session₀
      → words ≡ planned_words r
      → PlanAnswered p session₀ session₁ l l' before after words
  plan_answered r called e f =
      record {
        answer = f ∙ ap planned_words called.answer;
        session = e ∙ ap (λ (k : Result PlanAnswer Refusal). planned_session k session₀) called.answer;
        lists = called.lists;
        buffers = called.buffers;
      }

-- what is planned may be said in other words
pub called_as : {p q : Planned} {l l' : Lent} {before after : Buffers} {r : Result PlanAnswer Refusal} → p ≡ q → PlanCalled p l l' before after r → PlanCalled q l l' before after r
called_as e c = rw (← e) c

pub plan_answered_once : {p : Planned} {session t₁ t₂ w₁ w₂ : List ℕ} {l l₁ l₂ : Lent} {before b₁ b₂ : Buffers}
    → PlanAnswered p session t₁ l l₁ before b₁ w₁
    → PlanAnswered p session t₂ l l₂ before b₂ w₂
    → (w₁ ≡ w₂) × (t₁ ≡ t₂) × (l₁ ≡ l₂) × (b₁ ≡ b₂)
plan_answered_once x y =
    (x.answer ∙ sym y.answer, x.session ∙ sym y.session, x.lists ∙ sym y.lists, x.buffers ∙ sym y.buffers)
