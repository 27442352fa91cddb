-- A table checked beside an index: what an accepted table and its index have.
use Prim.Native.Nat.{ℕ, ◌/◌}
use mathlib.Core.Bool.{true, false}
use mathlib.Core.List.{List}
use mathlib.Core.Path.{◌≡◌, refl, sym, ◌∙◌}
use native.Mathlib.Omega.{arith}
use lib.ListN.{length}
use Rattle.rules.proofs.Cases.{split}
use Rattle.rules.specs.declared.refusal.Refusal.TheVariants.{BadIndex}
use Rattle.table.proofs.GoodLaws.{accepted_rows}
use Rattle.table.proofs.TableLaws.{table_good}
use Rattle.table.specs.TableBytes.{row_size, rows_at, table_of, whole_rows_of, table_checked, GoodRows}
use Rattle.table.specs.TableCalls.{passed_on}
use Rattle.table_index.specs.Index.{index_fits, index_checked, Indexed}
use Rattle.table_index.proofs.FitLaws.{index_fitting}
use Rattle.std.specs.Prelude.{Result, Ok, Err}
use Rattle.rules.specs.declared.refusal.Refusal.{Refusal}

-- an index that doesn't fit never gives rows
never : (c : Result ℕ Refusal) (n : ℕ) → passed_on c (Err BadIndex) ≡ Ok n → ⊥
unfolding passed_on
never (Ok m) n e = let z : ◌≡◌ {A = ℕ} 0 1 = cc in omega arith
never (Err r) n e = let z : ◌≡◌ {A = ℕ} 0 1 = cc in omega arith

passed_same : (c : Result ℕ Refusal) → passed_on c c ≡ c
unfolding passed_on
passed_same (Ok n) = refl
passed_same (Err r) = refl

module _ (s x : List ℕ) where
  pub unfit_decides : index_fits (rows_at s 0 (length s / row_size)) x ≡ false → index_checked s x ≡ passed_on (table_checked s) (Err BadIndex)
  unfolding index_checked whole_rows_of
  unfit_decides e = rw e

  pub fit_decides : index_fits (rows_at s 0 (length s / row_size)) x ≡ true → index_checked s x ≡ table_checked s
  unfolding index_checked whole_rows_of
  fit_decides e = rw e (passed_same (table_checked s))

  pub checked_table : (n : ℕ) → index_checked s x ≡ Ok n → table_checked s ≡ Ok n
  checked_table n e =
      split (index_fits (rows_at s 0 (length s / row_size)) x)
      (λ f. sym (fit_decides f) ∙ e)
      (λ f. absurd (never (table_checked s) n (sym (unfit_decides f) ∙ e)))

  pub checked_fits : (n : ℕ) → index_checked s x ≡ Ok n → index_fits (table_of s) x ≡ true
  unfolding whole_rows_of
  checked_fits n e =
      split (index_fits (rows_at s 0 (length s / row_size)) x)
      (λ f. f)
      (λ f. absurd (never (table_checked s) n (sym (unfit_decides f) ∙ e)))

  pub checked_indexed : (n : ℕ) → index_checked s x ≡ Ok n → Indexed s x n
  checked_indexed n e =
      let good : GoodRows s n = accepted_rows s n (checked_table n e) in
      let is : table_of s ≡ rows_at s 0 n = (table_good s n (checked_table n e)).is in
      let fit = index_fitting s x n (rw is at (checked_fits n e)) in
      record { rows = good; entries = omega (arith, fit.0); fit = fit.1 }
