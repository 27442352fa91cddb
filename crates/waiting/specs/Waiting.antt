-- Waiting tables as values. 01, Waiting table: a change that waits, and what it asks for.
use Rattle.std.specs.Prelude.{ℕ, List, [], map, get_or}
use Rattle.table.specs.Table.{index_in}

-- A waiting change: its hash, and the hashes that it asks for.
pub record Waiting : Type 0 where
  pub hash : ℕ
  pub asks : List ℕ

-- What stands beyond the last row.
abbrev pub no_waiting : Waiting
no_waiting = record { hash = 0; asks = [] }

-- The hashes that wait.
unfoldable pub waiting : List Waiting → List ℕ
waiting w = map (λ (r : Waiting). r.hash) w

-- What row i asks for.
unfoldable pub asks_of : List Waiting → ℕ → List ℕ
asks_of w i = (get_or w i no_waiting).asks

-- What a hash asks for that waits.
unfoldable pub asks : List Waiting → ℕ → List ℕ
asks w h = asks_of w (index_in (waiting w) h)
