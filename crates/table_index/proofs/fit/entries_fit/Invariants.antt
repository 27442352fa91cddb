-- `table_index::fit::entries_fit` meets its contract: what the entries from the i-th on say behind the last one is what all of them say, until one
-- doesn't fit or none is left. Assumes nothing.
use Prim.Native.Nat.{◌<◌}
use mathlib.Core.Path.{◌≡◌}
use Rattle.table.specs.TableBytes.{rows_at, u16s_at}
use Rattle.table_index.specs.Index.{fits}
use Rattle.table_index.proofs.FitLaws.{chaining}
use Rattle.table_index.proofs.fit.entries_fit.Given as goal

abbrev pub invariant-loop-i : goal.invariant-loop-i
invariant-loop-i l =
    record { low : l.last < l.n; rest : chaining l.table l.index l.n l.last l.i ≡ fits (rows_at l.table 0 l.n) (u16s_at l.index 0 l.n) }
