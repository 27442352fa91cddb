-- The joint set of two tables, and what M-111 promises of them. 02, M-111: "two ends with tables that give equal hashes equal dependencies".
use Rattle.std.specs.Prelude.{ℕ, zero, suc, true, cond, ◌||◌, List, [], ◌∷◌, ◌++◌, map, ◌≡◌}
use Rattle.hash_order.specs.Order.{member, ascend}
use Rattle.table.specs.Table.{Row, GoodTable, row_number, held, deps}
use Rattle.walk.specs.Round.{Part}
use Rattle.walk.specs.Walk.{lacking}
use Rattle.walk_ends.specs.Ends.{End, Exchanges, Turns, BothEnds}

-- A hash that both hold has the same dependencies in both; row numbers may differ, so these are the same as sets.
abbrev pub Agree : List Row → List Row → Type 0
Agree X Y = (h d : ℕ) → held X h ≡ true → held Y h ≡ true → member d (deps X h) ≡ member d (deps Y h)

-- A joint table: both are dependency-closed parts of it, and it has no other row.
pub record Joint (J X Y : List Row) : Type 0 where
  pub good : GoodTable J
  pub part_x : Part J X
  pub part_y : Part J Y
  pub only : (h : ℕ) → held J h ≡ true → (held X h || held Y h) ≡ true

-- A row of Y put behind a table that holds what it depends on: the same hashes, by that table's numbers.
unfoldable pub row_behind : List Row → List Row → ℕ → Row
row_behind Y t h = record { hash = h; deps = ascend (map (row_number t) (deps Y h)) }

-- Rows of Y put behind a table one by one, those that it doesn't hold.
unfoldable pub joining : List Row → List Row → List Row → List Row
joining Y t [] = t
joining Y t (r ∷ rs) = joining Y (cond (held t r.hash) t (t ++ (row_behind Y t r.hash ∷ []))) rs

-- The joint table of two: one of them, then the other's rows that it lacks.
abbrev pub joint_of : List Row → List Row → List Row
joint_of X Y = joining Y X Y

-- Messages of so many exchanges.
unfoldable pub twice : ℕ → ℕ
twice zero = zero
twice (suc n) = suc (suc (twice n))

-- Two messages are an exchange: what is promised of exchanges is promised of messages in turn, and the other way round.
pub record TurnsExchange (J X Y : List Row) : Type 0 where
  pub exchanged : (n : ℕ) (x y : End) → Turns J X Y (twice n) x y → Exchanges J X Y n x y
  pub turned : (n : ℕ) (x y : End) → Exchanges J X Y n x y → Turns J X Y (twice n) x y

-- M-111, of two tables and nothing else.
pub record TwoTables (X Y : List Row) : Type 0 where
  -- they have a joint table
  pub joint : Joint (joint_of X Y) X Y
  -- j and k: what an end lacks of it is what it lacks of the other's table
  pub lacks_x : lacking (joint_of X Y) X ≡ lacking Y X
  pub lacks_y : lacking (joint_of X Y) Y ≡ lacking X Y
  -- and both ends come to hold it
  pub ends : BothEnds (joint_of X Y) X Y

-- What is to be shown: any two good tables that agree are so; and it doesn't matter which joint table is taken.
pub record M111 : Type 0 where
  pub tables : (X Y : List Row) → GoodTable X → GoodTable Y → Agree X Y → TwoTables X Y
  pub any : (J X Y : List Row) → Joint J X Y → BothEnds J X Y
  pub turns : (J X Y : List Row) → TurnsExchange J X Y
