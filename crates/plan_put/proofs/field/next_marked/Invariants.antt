-- `plan_put::field::next_marked` meets its contract: no mark that was passed is set, and the one at which it stops is. Assumes nothing.
use Prim.Native.Nat.{ℕ, ◌≤◌, ◌<◌}
use mathlib.Core.Bool.{false}
use mathlib.Core.Path.{◌≡◌}
use lib.ListN.{get_or}
use Rattle.plan_put.proofs.field.next_marked.Given as goal

abbrev pub invariant-loop-k : goal.invariant-loop-k
invariant-loop-k l = (j : ℕ) → l.i ≤ j → j < l.k → get_or l.marks j false ≡ false
