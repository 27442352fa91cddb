-- Exchanges are messages in turn, two each: X speaks, then Y, and X speaks next. Assumes nothing.
use Prim.Native.Nat.{ℕ, zero, suc}
use mathlib.Core.List.{List}
use Rattle.table.specs.Table.{Row}
use Rattle.walk_ends.specs.Ends.{End, Exchanges, Turns}
use Rattle.walk_ends.specs.Joint.{twice, TurnsExchange}

module _ {J X Y : List Row} where
  exchanged : (n : ℕ) {x y : End} → Turns J X Y (twice n) x y → Exchanges J X Y n x y
  unfolding twice
  exchanged zero Turns.start = Exchanges.start
  exchanged (suc n) (Turns.turn says_y list_y (Turns.turn says_x list_x ts t) u) =
      Exchanges.more (exchanged n ts)
      (record { says_x = says_x; list_x = list_x; spoken_x = _; heard_y = _; first = t; says_y = says_y; list_y = list_y; second = u })

  turned : {n : ℕ} {x y : End} → Exchanges J X Y n x y → Turns J X Y (twice n) x y
  unfolding twice
  turned Exchanges.start = Turns.start
  turned (Exchanges.more ex e) = Turns.turn e.says_y e.list_y (Turns.turn e.says_x e.list_x (turned ex) e.first) e.second

pub turns_exchange : (J X Y : List Row) → TurnsExchange J X Y
turns_exchange J X Y = record { exchanged = λ n x y ts. exchanged n ts; turned = λ n x y ex. turned ex }
