-- `wire::parse::left` meets its contract: the bytes of the part are those up to its end in fact, less those before the place. Assumes
-- nothing.
use Prim.Native.Nat.{ℕ, ◌-◌, ◌≤◌}
use native.Mathlib.Omega.{arith}
use mathlib.Core.Path.{◌≡◌, sym, ap, ◌∙◌}
use Rattle.wire.proofs.Item.{left_is}
use Rattle.wire.proofs.parse.left.Goals as goal

none : (at stop m : ℕ) → stop ≡ m → stop ≤ at → 0 ≡ m - at
none at stop m e h = omega arith

pub returns-then-at-stop : goal.returns-then-at-stop
returns-then-at-stop c = ap (λ (k : ℕ). k - c.args.at) c.within-stop.ensures ∙ sym (left_is _ _ _)

pub returns-else-at-stop : goal.returns-else-at-stop
returns-else-at-stop c = none _ _ _ c.within-stop.ensures c.if-at-stop.false ∙ sym (left_is _ _ _)
