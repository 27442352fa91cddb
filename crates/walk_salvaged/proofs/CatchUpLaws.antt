-- A salvaged table whose kept rows are A's is a part of A: a kept row's dependencies are the same changes after salvaging.
use Prim.Native.Nat.{ℕ, ◌+◌, ◌/◌, ◌<◌}
use mathlib.Core.Bool.{true}
use mathlib.Core.List.{List}
use mathlib.Core.Path.{◌≡◌, sym, ap, subst, ◌∙◌}
use native.Mathlib.Omega.{arith}
use lib.ListN.{length, get_or}
use Rattle.hash_order.proofs.KeepLaws.{keep_member, keep_parts, once_keep, once_same}
use Rattle.hash_order.proofs.OrderLaws.{index_member}
use Rattle.hash_order.specs.Order.{member, keep}
use Rattle.rules.proofs.Cases.{split}
use Rattle.rules.specs.Sizes.{sizes}
use Rattle.salvage.proofs.NewTableLaws.{new_long, new_good}
use Rattle.salvage.proofs.SalvagedLaws.{same_order, same_changes, m109}
use Rattle.salvage.specs.Salvaged.{new_table, salvage}
use Rattle.salvage_rules.specs.KeptRows.{row_hash, kept_of}
use Rattle.table.proofs.TableLaws.{length_rows, row_of_held, hash_of_held}
use Rattle.table.specs.Table.{Row, GoodTable, rows, row_number, held, deps}
use Rattle.table.specs.TableBytes.{row_size_of, table_of}
use Rattle.walk.proofs.Theorem1.{theorem_1}
use Rattle.walk.specs.Round.{Part}
use Rattle.walk.specs.Walk.{lacking}
use Rattle.walk_salvaged.specs.CatchUp.{KeptRowsOf, SalvagedPart, SalvagedCatchesUp}

module _ (A : List Row) (d : ℕ) (s : List ℕ) (of : KeptRowsOf A d s) where
  abbrev t : List Row
  t = new_table d s

  abbrev K : List ℕ
  K = kept_of d s (length s / row_size_of d)

  -- the kept row of a hash
  record KeptAs (h : ℕ) : Type 0 where
    low : row_number t h < length K
    there : member (get_or K (row_number t h) 0) K ≡ true
    hash : row_hash d s (get_or K (row_number t h) 0) ≡ h

  kept_as : (h : ℕ) → held t h ≡ true → KeptAs h
  kept_as h e =
      let low : row_number t h < length K = (let a = row_of_held t h e in let b = new_long d s in omega arith) in
      record { low = low; there = index_member K (row_number t h) low; hash = sym (same_order d s (row_number t h) low) ∙ hash_of_held t h e }

  part_of : Part A t
  unfolding deps
  part_of =
      record {
        good = new_good d s;
        within =
            λ h e.
            let k = kept_as h e in
            ap (held A) (sym k.hash) ∙ of.within (get_or K (row_number t h) 0) k.there;
        same =
            λ h g e.
            let k = kept_as h e in
            ap (member g) (same_changes d s (row_number t h) k.low)
            ∙ of.same (get_or K (row_number t h) 0) g k.there
            ∙ ap (λ (x : ℕ). member g (deps A x)) k.hash;
      }

-- of A's rows those that B holds are B's
lacked : (A B : List Row) → GoodTable A → Part A B → lacking A B + length B ≡ length A
unfolding held
lacked A B good part =
    let parts = keep_parts (held B) (rows A) in
    let same : length (keep (held B) (rows A)) ≡ length (rows B) =
    once_same (keep (held B) (rows A)) (rows B) (once_keep (held B) (rows A) good.once) part.good.once
    (λ h. keep_member (held B) (rows A) h ∙ split (held B h) (λ e. rw e (part.within h e)) (λ e. rw e))
    in
    let a = length_rows A in
    let b = length_rows B in
    omega arith

pub salvaged_part : SalvagedPart
salvaged_part A d s of = part_of A d s of

pub salvaged_catches_up : SalvagedCatchesUp
salvaged_catches_up A s good b short of =
    let all = m109 sizes.dependencies sizes.rows s (omega arith) (omega arith) short b in
    let part : Part A (table_of (salvage sizes.dependencies s).bytes) = subst (Part A) (sym all.values) (part_of A sizes.dependencies s of) in
    let long = ap length all.values ∙ new_long sizes.dependencies s in
    let few = lacked A (table_of (salvage sizes.dependencies s).bytes) good part in
    record { part = part; demand = theorem_1 A (table_of (salvage sizes.dependencies s).bytes) good part; lacks = omega arith }
