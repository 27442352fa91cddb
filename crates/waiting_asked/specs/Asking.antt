-- Asking waiting rows, step by step. 01, Waiting table: a waiting change asks its dependency list, and the list asks each change in turn; once, since
-- its row is marked, so that a cycle ends. What internal functions ensure; which rows are marked then is `asked_row` (waiting_missing Missing).
use Rattle.std.specs.Prelude.{ℕ, ◌≤◌, ◌<◌, Bool, true, false, List, [], ◌∷◌, ◌≡◌, length, get_or, set}
use Rattle.rules.specs.Sizes.{sizes}
use Rattle.table.specs.Table.{index_in}
use Rattle.waiting.specs.WaitingBytes.{asks_count, Sorted}
use Rattle.waiting.specs.Waiting.{Waiting, waiting, asks_of}

-- The change of a row is asked, or a list of hashes. A hash that doesn't wait has the number of rows for its row.
pub data Request : Type 0 where
  change : ℕ → Request
  list : List ℕ → Request

-- From the marked rows to those that are marked afterwards.
pub data Asks (w : List Waiting) : Request → List Bool → List Bool → Type 0 where
  away : {k : ℕ} {m : List Bool} → length w ≤ k → Asks w (change k) m m
  marked : {k : ℕ} {m : List Bool} → get_or m k false ≡ true → Asks w (change k) m m
  waits : {k : ℕ} {m m' : List Bool} → k < length w → k < length m → get_or m k false ≡ false
      → Asks w (list (asks_of w k)) (set m k true) m'
      → Asks w (change k) m m'
  none : {m : List Bool} → Asks w (list []) m m
  more : {h : ℕ} {hs : List ℕ} {m m' m'' : List Bool} → Asks w (change (index_in (waiting w) h)) m m'
      → Asks w (list hs) m' m''
      → Asks w (list (h ∷ hs)) m m''

-- What the functions need: the waiting rows' numbers stand in order of their hashes, none asks for more than a change may, and each has a mark.
pub record Askable (waitings order : List ℕ) (m : ℕ) (marks : List Bool) : Type 0 where
  pub sorted : Sorted waitings order m
  pub few : (i : ℕ) → i < m → asks_count waitings i ≤ sizes.dependencies
  pub rows : m ≤ sizes.waiting_rows
  pub marked : m ≤ length marks
