-- The marked rows of a table in bytes: one after the other, their hashes stand at the rows' starts.
use Prim.Native.Nat.{ℕ, ◌+◌, ◌*◌, ◌≤◌, ◌<◌}
use mathlib.Core.Bool.{Bool, true, false}
use mathlib.Core.List.{List, [], ◌∷◌}
use mathlib.Core.Path.{◌≡◌, ◌∙◌}
use native.Mathlib.Omega.{arith}
use lib.ListN.{length, get_or}
use Rattle.rules.specs.Hash.{hash_at}
use Rattle.rules.specs.Sizes.{sizes}
use Rattle.table.specs.TableBytes.{row_size, rows_at}
use Rattle.table.specs.Table.{rows, hash_of}
use Rattle.table.proofs.TableLaws.{hash_of_row}
use Rattle.table_graph.specs.Internal.Marks.{marked}
use Rattle.table_graph.proofs.GraphMarks.{many_rows}
use Rattle.table_graph.proofs.PickLaws.{pick_left, left_all, left_taken, left_passed, left_none, picked_count}

pub hash_there : (s : List ℕ) (n i : ℕ) → i < n → get_or (rows (rows_at s 0 n)) i 0 ≡ hash_at s (i * row_size)
unfolding hash_of
hash_there s n i h = hash_of_row s n i h

module _ (s : List ℕ) (n : ℕ) (m : List Bool) where
  abbrev hs : List ℕ
  hs = rows (rows_at s 0 n)

  pub row_taken : (i : ℕ) → i < n → get_or m i false ≡ true → pick_left hs m i ≡ hash_at s (i * row_size) ∷ pick_left hs m (i + 1)
  row_taken i h e = left_taken hs m i (omega (arith, many_rows s n)) e ∙ rw (hash_there s n i h)

  pub row_passed : (i : ℕ) → i < n → get_or m i false ≡ false → pick_left hs m i ≡ pick_left hs m (i + 1)
  row_passed i h e = left_passed hs m i (omega (arith, many_rows s n)) e

  pub rows_none : (i : ℕ) → n ≤ i → pick_left hs m i ≡ []
  rows_none i h = left_none hs m i (omega (arith, many_rows s n))

  -- as much room as is counted
  pub rows_room : (at room : ℕ) → at + sizes.hash * marked n m ≤ room → at + sizes.hash * length (pick_left hs m 0) ≤ room
  rows_room at room h = rw left_all (omega (arith, picked_count hs m n (many_rows s n)))
