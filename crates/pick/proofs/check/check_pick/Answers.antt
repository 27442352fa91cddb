-- `pick::check::check_pick` meets its contract: one law for each answer (PickAnswers), and what has passed the tests is good. Assumes nothing.
use Prim.Native.Nat.{ℕ}
use mathlib.Core.Path.{◌≡◌, sym, ap, ◌∙◌}
use native.Mathlib.Omega.{arith}
use Rattle.std.specs.Prelude.{Result, Ok, Err, MatchResult, IsErrAnd}
use Rattle.rules.proofs.Cases.{handed_on}
use Rattle.rules.proofs.PassedLaws.{up_to_is, passed_is}
use Rattle.rules.specs.Sizes.{sizes}
use Rattle.rules.specs.declared.refusal.Refusal.{Refusal}
use Rattle.rules.specs.declared.refusal.Refusal.TheVariants.{BadPick}
use Rattle.table_index.proofs.CheckLaws.{checked_indexed}
use Rattle.pick.specs.PickCalls.{pick_answered}
use Rattle.pick.proofs.PickAnswers.{check_no_table, check_no_list, check_no_pick, check_answered}
use Rattle.pick.proofs.check.check_pick.Goals as goal

answered : (p : Result Unit ℕ) (r : Result Unit Refusal) → MatchResult p (λ x. r ≡ Ok x) (λ e. IsErrAnd r (λ d. d ≡ BadPick e)) → r ≡ pick_answered p
unfolding pick_answered
answered (Ok tt) r h = h
answered (Err e) r h = handed_on h

pub check_listed-requires : goal.check_listed-requires
check_listed-requires c =
    let many = up_to_is sizes.hashes_to_send _ _ (sym c.in_ok-many.ensures) in
    let count = passed_is _ _ (sym c.in_ok-count.ensures) in (
      checked_indexed _ _ _ (sym c.in_ok-n.ensures),
      omega (arith, many.whole),
      omega (arith, count.whole),
      count.few,
    )

pub returns-in_err-n : goal.returns-in_err-n
returns-in_err-n c = rw (handed_on c.from_residual.ensures.1) (check_no_table _ _ _ _ _ _ _ (sym c.in_err-n.ensures))

pub returns-in_err-many : goal.returns-in_err-many
returns-in_err-many c = rw (handed_on c.from_residual-in_err-many.ensures.1) (check_no_list _ _ _ _ _ _ _ (sym c.in_ok-n.ensures) _ (sym c.in_err-many.ensures))

pub returns-in_err-count : goal.returns-in_err-count
returns-in_err-count c = rw (handed_on c.from_residual-in_err-count.ensures.1) (check_no_pick _ _ _ _ _ _ _ (sym c.in_ok-n.ensures) _ (sym c.in_ok-many.ensures) _ (sym c.in_err-count.ensures))

pub returns : goal.returns
returns c =
    answered _ _ c.map_err.ensures.cases
    ∙ ap pick_answered c.check_listed.ensures
    ∙ check_answered _ _ _ _ _ _ _ (sym c.in_ok-n.ensures) _ (sym c.in_ok-many.ensures) _ (sym c.in_ok-count.ensures)
