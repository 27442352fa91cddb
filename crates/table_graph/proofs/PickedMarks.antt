-- Rows of the hashes of a list that are themselves marked: those that are left, marked after those that were, are all of them marked.
use Prim.Native.Nat.{ℕ, ◌+◌, ◌*◌, ◌≤◌, ◌<◌}
use mathlib.Core.Bool.{Bool, true, false, ◌||◌}
use mathlib.Core.List.{List}
use mathlib.Core.Path.{◌≡◌, ap, ◌∙◌}
use native.Mathlib.Nat.{zero-add}
use native.Mathlib.Omega.{arith}
use lib.ListN.{length, get_or}
use Rattle.hash_order.specs.Order.{member}
use Rattle.rules.proofs.Hash.{length_hashes_at, hashes_index}
use Rattle.rules.specs.Hash.{hash_at, hashes_at}
use Rattle.rules.specs.Sizes.{sizes}
use Rattle.table.proofs.TableLaws.{length_rows, length_rows_at}
use Rattle.table.specs.TableBytes.{rows_at, GoodRows}
use Rattle.table.specs.Table.{rows, hash_of}
use Rattle.table_graph.specs.Internal.Marks.{Marks, picked, mark_hash}
use Rattle.table_graph.proofs.MarkLaws.{mark_list, mark_list_lem}
use Rattle.table_graph.proofs.PickLaws.{pick_left, left_all, left_taken, left_passed, left_none}

module _ (s : List ℕ) (n : ℕ) (l : List ℕ) (count : ℕ) (picks : List Bool) where
  abbrev hs : List ℕ
  hs = rows (rows_at s 0 n)

  abbrev asked : List ℕ
  asked = hashes_at l 0 count

  -- the hashes before number k are marked where they are picked
  pub record Picking (marks₀ marks : List Bool) (k : ℕ) : Type 0 where
    pub rest : mark_list (rows (rows_at s 0 n)) marks (pick_left (hashes_at l 0 count) picks k) ≡ mark_list (rows (rows_at s 0 n)) marks₀ (picked (hashes_at l 0 count) picks)

  pub picking_starts : (marks₀ : List Bool) → Picking marks₀ marks₀ 0
  picking_starts marks₀ = record { rest = ap (mark_list hs marks₀) (left_all asked picks) }

  module _ (marks₀ marks : List Bool) (k : ℕ) (so : Picking marks₀ marks k) (inside : k < count) where
    there : k < length asked
    there = omega (arith, length_hashes_at l 0 count)

    pub picking_passed : get_or picks k false ≡ false → Picking marks₀ marks (k + 1)
    picking_passed e =
        record { rest = rw (left_passed asked picks k there e) at so.rest }

    pub picking_taken : get_or picks k false ≡ true → (next : List Bool) → next ≡ mark_hash hs marks (hash_at l (sizes.hash * k)) → Picking marks₀ next (k + 1)
    unfolding mark_list
    picking_taken e next put =
        let first : get_or asked k 0 ≡ hash_at l (sizes.hash * k) = hashes_index l 0 count k inside ∙ rw zero-add in
        record { rest = rw put (rw (left_taken asked picks k there e, first) at so.rest) }

  pub picking_ends : (marks₀ marks : List Bool) (k : ℕ) → Picking marks₀ marks k → count ≤ k → GoodRows s n → n ≤ length marks₀
      → Marks n marks (λ i. get_or marks₀ i false || member (hash_of (rows_at s 0 n) i) (picked (hashes_at l 0 count) picks))
  unfolding mark_list hash_of
  picking_ends marks₀ marks k so out good room =
      let none : marks ≡ mark_list hs marks₀ (picked asked picks) = rw (left_none asked picks k (omega (arith, length_hashes_at l 0 count))) at so.rest in
      let long : length hs ≡ n = length_rows (rows_at s 0 n) ∙ length_rows_at s 0 n in
      record { each = λ i h. rw none (mark_list_lem hs good.good.once marks₀ (picked asked picks) i (rw long room) (rw long h)) }
