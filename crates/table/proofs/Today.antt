-- Parts of today's rows, which have room for as many dependencies as a change may have: the names that only laws use.
use Prim.Native.Nat.{ℕ}
use mathlib.Core.Bool.{Bool}
use mathlib.Core.List.{List}
use Rattle.rules.specs.Sizes.{sizes}
use Rattle.table.specs.TableBytes.{row_of, row_good_of}
use Rattle.table.specs.Table.{Row}

abbrev pub row_at : List ℕ → ℕ → Row
row_at s i = row_of sizes.dependencies s i

abbrev pub row_good : List ℕ → ℕ → Bool
row_good s i = row_good_of sizes.dependencies s i
