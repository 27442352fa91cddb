-- Parts of today's waiting rows, which have room for as many dependencies as a change may have: the names that only laws use.
use Prim.Native.Nat.{ℕ}
use mathlib.Core.Bool.{Bool}
use mathlib.Core.List.{List}
use Rattle.rules.specs.Sizes.{sizes}
use Rattle.table.specs.Table.{Row}
use Rattle.waiting.specs.WaitingBytes.{asks_place_of, waiting_good_of}

abbrev pub asks_place : ℕ → ℕ
asks_place i = asks_place_of sizes.dependencies i

abbrev pub waiting_good : List Row → List ℕ → ℕ → Bool
waiting_good t s i = waiting_good_of sizes.dependencies t s i
