-- The rows that are marked when the marks of those at or below a list are turned are the rows beyond it. Assumes nothing.
use Prim.Native.Nat.{ℕ, ◌≤◌}
use mathlib.Core.Bool.{Bool, true, false, not}
use mathlib.Core.List.{List}
use mathlib.Core.Path.{◌≡◌, refl}
use lib.ListN.{length, get_or}
use Rattle.table_graph.specs.Graph.{below_row}
use Rattle.table_graph.specs.Internal.Marks.{Marks, marked}
use Rattle.table_graph.proofs.GraphMarks.{picked_beyond}
use Rattle.rules.proofs.Cases.{true_false}
use Rattle.table.specs.TableBytes.{rows_at}
use Rattle.table.specs.Table.{Row}
use Rattle.plan_parts.specs.Internal.PlanParts.{HaveCounted}

pub nothing_counted : (t : List Row) (n : ℕ) (given : Bool) (l : List ℕ) (marks : List Bool) → given ≡ false → n ≤ length marks → HaveCounted t n given l marks 0
nothing_counted t n given l marks e h =
    record { long = h; those = λ g. absurd (true_false given g e); many = λ g. absurd (true_false given g e); none = λ _. refl }

pub beyond_counted : (table : List ℕ) (n : ℕ) (l : List ℕ) (known marks : List Bool) → Marks n known (below_row (rows_at table 0 n) l)
    → Marks n marks (λ i. not (get_or known i false))
    → (given : Bool) (entries : ℕ) → given ≡ true → n ≤ length marks → entries ≡ marked n marks
    → HaveCounted (rows_at table 0 n) n given l marks entries
beyond_counted table n l known marks below turned given entries g h e =
    record { long = h; those = λ _. picked_beyond table n l known marks below turned; many = λ _. e; none = λ f. absurd (true_false given g f) }
