-- The marked ones of the first rows, ascending, compared with the hashes at a place: an index has the rows in this order, so the rest of both lists decides
-- whether they are the same. Each law is one turn of the loop, with its tests as hypotheses.
use Prim.Native.Nat.{ℕ, ◌+◌, ◌*◌, ◌≤◌, ◌<◌}
use mathlib.Core.Bool.{Bool, true, false}
use mathlib.Core.List.{List}
use mathlib.Core.Path.{◌≡◌, sym, ◌∙◌}
use native.Mathlib.Omega.{arith}
use borrow.Author.Tests.{ltb-true, ltb-false, eq-eqb, ne_eqb}
use lib.Dec.{ltb, eqb}
use Rattle.table_index.specs.Index.{fits}
use Rattle.hash_lists.proofs.CompareLaws.{onward, onward_starts, onward_first, onward_ends}
use Rattle.hash_lists.specs.Lists.{same}
use Rattle.hash_order.specs.Order.{ascend}
use Rattle.rules.proofs.Cases.{split}
use Rattle.rules.specs.Hash.{hash_at, hashes_at}
use Rattle.rules.specs.LittleEndian.{u16_at}
use Rattle.rules.specs.Sizes.{sizes}
use Rattle.table.specs.TableBytes.{u16s_at, row_size, rows_at}
use Rattle.table.specs.Table.{rows}
use Rattle.table_graph.specs.Internal.Marks.{picked}
use Rattle.table_graph.proofs.CollectLaws.{collects, collect_from, collect_is, collect_taken, collect_passed, collect_none}

module _ (table x : List ℕ) (n before : ℕ) (m : List Bool) where
  module _ (s : List ℕ) (place many : ℕ) where
    -- the first `count` hashes are those of the rows before entry k
    pub record Comparing (count k : ℕ) : Type 0 where
      pub few : count ≤ many
      pub rest : same (onward s place many count) (collect_from table x n before m k) ≡ same (hashes_at s place many) (collect_from table x n before m 0)

    pub comparing_starts : Comparing 0 0
    comparing_starts = record { few = omega arith; rest = rw (onward_starts s place many) }

    abbrev Decided : Bool → Type 0
    Decided b = b ≡ same (hashes_at s place many) (ascend (picked (rows (rows_at table 0 before)) m))

    module _ (count k : ℕ) (so : Comparing count k) where
      decides : fits (rows_at table 0 n) (u16s_at x 0 n) ≡ true → before ≤ n → (b : Bool) → same (onward s place many count) (collect_from table x n before m k) ≡ b → Decided b
      decides ok h b e = rw (collect_is table x n before m ok h) at (sym e ∙ so.rest)

      module _ (r : ℕ) (inside : k < n) (read : r ≡ u16_at x (2 * k)) where
        pub comparing_passed : collects table x n before m r ≡ false → Comparing count (k + 1)
        comparing_passed e =
            record { few = so.few; rest = rw (collect_passed table x n before m k r inside read e) at so.rest }

        module _ (low : r < n) (e : collects table x n before m r ≡ true) where
          -- a row more than there are hashes
          pub comparing_more : fits (rows_at table 0 n) (u16s_at x 0 n) ≡ true → before ≤ n → many ≤ count → Decided false
          unfolding same
          comparing_more ok h l = decides ok h false (rw (onward_ends s place many count l, collect_taken table x n before m k r inside read low e))

          module _ (there : count < many) where
            pub comparing_fails : fits (rows_at table 0 n) (u16s_at x 0 n) ≡ true → before ≤ n
                → eqb (hash_at s (place + sizes.hash * count)) (hash_at table (r * row_size)) ≡ false
                → Decided false
            unfolding same
            comparing_fails ok h d = decides ok h false (rw (onward_first s place many count there, collect_taken table x n before m k r inside read low e, d))

            pub comparing_taken : eqb (hash_at s (place + sizes.hash * count)) (hash_at table (r * row_size)) ≡ true → Comparing (count + 1) (k + 1)
            unfolding same
            comparing_taken d =
                record {
                  few = omega arith;
                  rest = rw (onward_first s place many count there, collect_taken table x n before m k r inside read low e, d) at so.rest;
                }

      pub comparing_ends : fits (rows_at table 0 n) (u16s_at x 0 n) ≡ true → before ≤ n → n ≤ k → Decided (eqb count many)
      unfolding same
      comparing_ends ok h l =
          split (ltb count many)
          (λ e.
          let less : count < many = ltb-true count many e in
          rw (ne_eqb count many (λ q. omega arith))
          (decides ok h false (rw (onward_first s place many count less, collect_none table x n before m k l))))
          (λ e.
          let is : count ≡ many = omega (arith, so.few, ltb-false count many e) in
          rw (eq-eqb count many is)
          (decides ok h true (rw (onward_ends s place many count (omega arith), collect_none table x n before m k l))))
