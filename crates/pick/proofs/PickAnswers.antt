-- What the check over marks and the public calls answer, one law for each way through the tests. Assumes nothing.
use Prim.Native.Nat.{ℕ, ◌≤◌, ◌<◌}
use mathlib.Core.Bool.{true, false, not}
use mathlib.Core.List.{List}
use mathlib.Core.Path.{◌≡◌, sym, ◌∙◌}
use native.Mathlib.Omega.{arith}
use borrow.Author.Tests.{eq-eqb, ne_eqb, ltb-false, lt-ltb, le-ltb, leb-true, le-leb}
use lib.Dec.{ltb, leb}
use lib.ListN.{length}
use Rattle.hash_order.proofs.KeepLaws.{every_one}
use Rattle.hash_order.specs.Order.{every}
use Rattle.rules.proofs.Cases.{split, true_false}
use Rattle.rules.proofs.PassedLaws.{after_refused, after_hashes}
use Rattle.rules.specs.Hash.{hashes_at, hashes_bytes}
use Rattle.rules.specs.Output.{Output}
use Rattle.rules.specs.Passed.{passed_hashes}
use Rattle.rules.specs.declared.refusal.Refusal.{Refusal}
use Rattle.rules.specs.declared.refusal.Refusal.TheVariants.{BadPick}
use Rattle.table.proofs.TableLaws.{table_good}
use Rattle.table.specs.Table.{Row, held}
use Rattle.table.specs.TableBytes.{rows_at}
use Rattle.table.specs.TableCalls.{after_check}
use Rattle.table_index.proofs.CheckLaws.{checked_table}
use Rattle.table_index.specs.Index.{index_checked}
use Rattle.pick.specs.PickCalls.{passed_list, pick_answered, pick_after, check_answer, pick_output}
use Rattle.pick.specs.Picking.{first_broken, size_sum, empty_allowed, pick_checked, pick_of}
use Rattle.pick.proofs.AcceptLaws.{unbroken_fits, fits_parts}
use Rattle.std.specs.Prelude.{Ok, Err}

-- ---- the check

module _ (t : List Row) (list rowSizes : List ℕ) (budget : ℕ) (pick : List ℕ) (n count place : ℕ)
    (rows_are : length t ≡ n)
    (many : length pick ≡ count)
    (found : place ≡ first_broken t list pick 0 0 pick)
  where
    pub checked_broken : place < count → Err place ≡ pick_checked t list rowSizes budget pick
    unfolding pick_checked
    checked_broken h = rw (many, ← found, lt-ltb place count h)

    module _ (past : count ≤ place) where
      -- each hash of an unbroken pick is a row's
      pub unbroken_held : every (held t) pick ≡ true
      unbroken_held =
          every_one (held t) pick
          (λ h m. (fits_parts t list pick 0 pick (unbroken_fits t list pick 0 0 pick (omega arith)) h m).0)

      pub checked_sizes : (length rowSizes ≡ n → ⊥) → Err count ≡ pick_checked t list rowSizes budget pick
      unfolding pick_checked
      checked_sizes h = rw (many, ← found, le-ltb place count past, rows_are, ne_eqb (length rowSizes) n h)

      module _ (each : length rowSizes ≡ n) where
        pub checked_sum : leb (size_sum t rowSizes pick) budget ≡ false → Err count ≡ pick_checked t list rowSizes budget pick
        unfolding pick_checked
        checked_sum e = rw (many, ← found, le-ltb place count past, rows_are, eq-eqb (length rowSizes) n each, over (size_sum t rowSizes pick) budget e)
          where
            over : (a b : ℕ) → leb a b ≡ false → ltb b a ≡ true
            over a b e = split (ltb b a) (λ x. x) (λ x. absurd (true_false (leb a b) (le-leb a b (ltb-false b a x)) e))

        module _ (small : leb (size_sum t rowSizes pick) budget ≡ true) where
          within : ltb budget (size_sum t rowSizes pick) ≡ false
          within = le-ltb budget (size_sum t rowSizes pick) (leb-true (size_sum t rowSizes pick) budget small)

          pub checked_some : 0 < count → Ok tt ≡ pick_checked t list rowSizes budget pick
          unfolding pick_checked
          checked_some h =
              rw (many, ← found, le-ltb place count past, rows_are, eq-eqb (length rowSizes) n each, within, ne_eqb count 0 (λ e. omega arith))

          module _ (none : count ≤ 0) where
            pub checked_empty : true ≡ not (empty_allowed t list rowSizes budget) → Err 0 ≡ pick_checked t list rowSizes budget pick
            unfolding pick_checked
            checked_empty e =
                rw (many, ← found, le-ltb place count past, rows_are, eq-eqb (length rowSizes) n each, within, eq-eqb count 0 (omega arith), ← e)

            pub checked_nothing : false ≡ not (empty_allowed t list rowSizes budget) → Ok tt ≡ pick_checked t list rowSizes budget pick
            unfolding pick_checked
            checked_nothing e =
                rw (many, ← found, le-ltb place count past, rows_are, eq-eqb (length rowSizes) n each, within, eq-eqb count 0 (omega arith), ← e)

-- ---- the call that checks

module _ (s x l : List ℕ) (rowSizes : List ℕ) (budget : ℕ) (p : List ℕ) where
  pub check_no_table : (r : Refusal) → index_checked s x ≡ Err r → Err r ≡ check_answer s x l rowSizes budget p
  unfolding check_answer pick_after
  check_no_table r e = rw e

  module _ (n : ℕ) (good : index_checked s x ≡ Ok n) where
    pub check_no_list : (r : Refusal) → passed_list l ≡ Err r → Err r ≡ check_answer s x l rowSizes budget p
    unfolding check_answer pick_after
    check_no_list r e = rw good (sym (after_refused _ _ _ r e))

    module _ (m : ℕ) (listed : passed_list l ≡ Ok m) where
      pub check_no_pick : (r : Refusal) → passed_hashes p ≡ Err r → Err r ≡ check_answer s x l rowSizes budget p
      unfolding check_answer pick_after
      check_no_pick r e = rw good (sym (after_hashes _ _ _ m listed ∙ after_refused _ _ _ r e))

      pub check_answered : (k : ℕ) → passed_hashes p ≡ Ok k
          → pick_answered (pick_checked (rows_at s 0 n) (hashes_at l 0 m) rowSizes budget (hashes_at p 0 k)) ≡ check_answer s x l rowSizes budget p
      unfolding check_answer pick_after
      check_answered k e =
          rw (good, (table_good s n (checked_table s x n good)).is) (sym (after_hashes _ _ _ m listed ∙ after_hashes _ _ _ k e))

-- ---- the call that picks

module _ (s x l : List ℕ) (rowSizes : List ℕ) (budget : ℕ) where
  pub pick_no_table : (r : Refusal) → index_checked s x ≡ Err r → pick_output s x l rowSizes budget ≡ Output.refuse r
  unfolding pick_output after_check
  pick_no_table r e = rw e

  module _ (n : ℕ) (good : index_checked s x ≡ Ok n) where
    pub pick_no_list : (r : Refusal) → passed_list l ≡ Err r → pick_output s x l rowSizes budget ≡ Output.refuse r
    unfolding pick_output after_check
    pick_no_list r e = rw good (after_refused _ _ _ r e)

    module _ (m : ℕ) (listed : passed_list l ≡ Ok m) where
      pub pick_no_sizes : (length rowSizes ≡ n → ⊥) → pick_output s x l rowSizes budget ≡ Output.refuse (BadPick 0)
      unfolding pick_output after_check
      pick_no_sizes e = rw good (after_hashes _ _ _ m listed ∙ rw (ne_eqb (length rowSizes) n e))

      pub pick_made : length rowSizes ≡ n
          → pick_output s x l rowSizes budget ≡ Output.bytes (hashes_bytes (pick_of (rows_at s 0 n) (hashes_at l 0 m) rowSizes budget))
      unfolding pick_output after_check
      pick_made e =
          rw (good, (table_good s n (checked_table s x n good)).is)
          (after_hashes _ _ _ m listed ∙ rw (eq-eqb (length rowSizes) n e))
