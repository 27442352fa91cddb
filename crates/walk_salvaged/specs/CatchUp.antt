-- A unit whose change table was hurt and salvaged catches up with its station. 02, M-109, and 01, The catch-up walk: B has to be a dependency-closed part of
-- A there. As in demand 3, nothing is promised of a unit that keeps no row.
use Rattle.std.specs.Prelude.{ℕ, ◌+◌, ◌*◌, ◌/◌, ◌≤◌, true, List, map, ◌≡◌, length}
use Rattle.hash_order.specs.Order.{member}
use Rattle.rules.specs.Hash.{Bytes}
use Rattle.rules.specs.Sizes.{sizes}
use Rattle.salvage.specs.Salvaged.{new_table, salvage}
use Rattle.salvage_rules.specs.KeptRows.{row_hash, kept_of}
use Rattle.table.specs.Table.{Row, GoodTable, held, deps}
use Rattle.table.specs.TableBytes.{row_size_of, used_of, row_size, table_of}
use Rattle.walk.specs.Round.{Part}
use Rattle.walk.specs.Walk.{lacking, Demand3}

-- Each kept row of the hurt table s is a row of A: its hash is one of A's, and its dependencies, by hash, are those of A's row.
pub record KeptRowsOf (A : List Row) (d : ℕ) (s : List ℕ) : Type 0 where
  pub within : (i : ℕ) → member i (kept_of d s (length s / row_size_of d)) ≡ true → held A (row_hash d s i) ≡ true
  pub same : (i h : ℕ) → member i (kept_of d s (length s / row_size_of d)) ≡ true
      → member h (map (row_hash d s) (used_of d s i)) ≡ member h (deps A (row_hash d s i))

-- The salvaged table is then a dependency-closed part of A.
abbrev pub SalvagedPart : Type 0
SalvagedPart = (A : List Row) (d : ℕ) (s : List ℕ) → KeptRowsOf A d s → Part A (new_table d s)

-- What is said of a unit that has the bytes that were salvaged from s as its table.
pub record Recovers (A : List Row) (s : List ℕ) : Type 0 where
  pub part : Part A (table_of (salvage sizes.dependencies s).bytes)
  -- demand 3: it holds A after at most m + 1 rounds
  pub demand : Demand3 A (table_of (salvage sizes.dependencies s).bytes)
  -- and m is how many rows of A weren't kept
  pub lacks : lacking A (table_of (salvage sizes.dependencies s).bytes) + length (kept_of sizes.dependencies s (length s / row_size)) ≡ length A

-- A salvaged unit catches up.
abbrev pub SalvagedCatchesUp : Type 0
SalvagedCatchesUp = (A : List Row) (s : List ℕ) → GoodTable A → Bytes s → length s ≤ sizes.rows * row_size → KeptRowsOf A sizes.dependencies s → Recovers A s
