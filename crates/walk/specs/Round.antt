-- What one end states and names in a round, whatever the other end is. 01, The catch-up walk: a line over each definition says its step. B is the end that
-- catches up, A the one that answers; W is what waits beside B, T what A has named and B isn't known to have.
use Rattle.std.specs.Prelude.{ℕ, ◌≤◌, ◌<◌, true, false, not, ◌&&◌, ◌||◌, List, [], ◌∷◌, ◌++◌, map, ◌≡◌, eqb, length}
use Rattle.bloom.specs.Have.{Have}
use Rattle.table_graph.specs.Graph.{below, beyond}
use Rattle.waiting_missing.specs.Missing.{missing}
use Rattle.hash_order.specs.Order.{member, keep, every, often, ascends}
use Rattle.bloom_probe.specs.Contains.{contains}
use Rattle.table.specs.Table.{Row, GoodTable, hash_of, held, deps}
use Rattle.waiting.specs.Waiting.{Waiting, waiting, asks}

-- B is a dependency-closed part of A: a good table, so that it holds what its rows depend on, whose rows are A's with A's dependencies. Row numbers may
-- differ, so dependencies are the same as sets.
pub record Part (A B : List Row) : Type 0 where
  pub good : GoodTable B
  pub within : (h : ℕ) → held B h ≡ true → held A h ≡ true
  pub same : (h d : ℕ) → held B h ≡ true → member d (deps B h) ≡ member d (deps A h)

-- Step 2, what a have must be: last-sync hashes that the table holds, and a filter that contains its rows beyond them.
pub record Covers (t : List Row) (v : Have) : Type 0 where
  pub holds : (h : ℕ) → member h v.last_sync ≡ true → held t h ≡ true
  pub covers : (h : ℕ) → member h (beyond t v.last_sync) ≡ true → contains v.filter h ≡ true

-- Step 2, when there is one: exactly if every need is among the heads that were heard.
pub data Gives (t : List Row) (w : List Waiting) (heard : List ℕ) : List Have → Type 0 where
  one : (v : Have) → every (λ h. member h heard) (missing t w heard) ≡ true → Covers t v → Gives t w heard (v ∷ [])
  none : every (λ h. member h heard) (missing t w heard) ≡ false → Gives t w heard []

-- Step 3: T loses the heads that were heard and all below them.
unfoldable pub trim : List Row → List ℕ → List ℕ → List ℕ
trim t heard sent = keep (λ h. not (below t heard h)) sent

-- Step 4, what goes of an offer: no hash more often than there, and something if there is something. The whole offer, 01's reply, is one such.
pub record Picks (offer reply : List ℕ) : Type 0 where
  pub few : (h : ℕ) → often h reply ≤ often h offer
  pub some : (x : ℕ) → member x offer ≡ true → (y : ℕ) × (member y reply ≡ true)

-- Step 5, first half: the reply joins W, each row with A's dependencies.
pub record Joins (A : List Row) (w : List Waiting) (reply : List ℕ) (w' : List Waiting) : Type 0 where
  pub are : (h : ℕ) → member h (waiting w') ≡ (member h (waiting w) || member h reply)
  pub once : (h : ℕ) → often h (waiting w') ≤ 1
  pub ask : (h d : ℕ) → member h (waiting w') ≡ true → member d (asks w' h) ≡ member d (deps A h)

-- Step 5, one move: a row of W whose dependencies are all in B goes to B's end; the order of moves is the host's.
pub record Moves (b : List Row) (w : List Waiting) (b' : List Row) (w' : List Waiting) : Type 0 where
  pub hash : ℕ
  pub numbers : List ℕ
  pub waits : member hash (waiting w) ≡ true
  pub ready : every (held b) (asks w hash) ≡ true
  pub ordered : ascends numbers ≡ true
  pub below : (i : ℕ) → member i numbers ≡ true → i < length b
  pub name : (d : ℕ) → member d (map (hash_of b) numbers) ≡ member d (asks w hash)
  pub grown : b' ≡ b ++ (record { hash = hash; deps = numbers } ∷ [])
  pub rest : (h : ℕ) → member h (waiting w') ≡ (member h (waiting w) && not (eqb h hash))
  pub once : (h : ℕ) → often h (waiting w') ≤ often h (waiting w)
  pub ask : (h : ℕ) → member h (waiting w') ≡ true → asks w' h ≡ asks w h

-- Step 5, second half: moves until none can.
pub data Settles : List Row → List Waiting → List Row → List Waiting → Type 0 where
  done : {b : List Row} {w : List Waiting} → ((h : ℕ) → member h (waiting w) ≡ true → every (held b) (asks w h) ≡ false) → Settles b w b w
  step : {b : List Row} {w : List Waiting} {b' : List Row} {w' : List Waiting} {b'' : List Row} {w'' : List Waiting}
      → Moves b w b' w'
      → Settles b' w' b'' w''
      → Settles b w b'' w''

-- Step 5.
pub record Loads (A b : List Row) (w : List Waiting) (reply : List ℕ) (b' : List Row) (w' : List Waiting) : Type 0 where
  pub joined : List Waiting
  pub joins : Joins A w reply joined
  pub settles : Settles b joined b' w'
