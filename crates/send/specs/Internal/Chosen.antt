-- What internal contracts speak of: the hashes that marks of needs and of rows name. No rule of 01 stands here.
use Rattle.std.specs.Prelude.{ℕ, ◌+◌, ◌*◌, ◌≤◌, Bool, false, not, ◌&&◌, List, [], ◌∷◌, ◌++◌, ◌≡◌, length, get_or}
use Rattle.bloom.specs.Have.{Have, GoodFilters}
use Rattle.table_index.specs.Index.{Indexed}
use Rattle.hash_order.specs.Order.{member}
use Rattle.rules.specs.Sizes.{sizes}
use Rattle.table.specs.Table.{Row, rows, hash_of, held, row_number}
use Rattle.table_graph.specs.Internal.Marks.{Marks, picked}
use Rattle.send_members.specs.Internal.Members.{in_the_s, SyncsInside}

-- The rows that are sent without being needed: S, or none where there is no have.
unfoldable pub answered_row : List Row → List Have → ℕ → Bool
answered_row t [] i = false
answered_row t (h ∷ hs) i = in_the_s t (h ∷ hs) i

-- A hash whose row neither marks name.
unfoldable pub held_unmarked : List Row → List Bool → List Bool → ℕ → Bool
held_unmarked t members past h = held t h && (not (get_or members (row_number t h) false) && not (get_or past (row_number t h) false))

-- The rows of hashes that were sent are marked.
abbrev pub SentRows : List Row → ℕ → List ℕ → List Bool → Type 0
SentRows t n sent past = Marks n past (λ i. member (hash_of t i) sent)

-- The needs that are marked in their order, then the marked rows in table order.
unfoldable pub chosen_by : List Row → List Bool → List ℕ → List Bool → List ℕ
chosen_by t marks need needs = picked need needs ++ picked (rows t) marks

-- The marks name a list, and as many hashes were counted.
pub record Chosen (l : List ℕ) (t : List Row) (marks : List Bool) (need : List ℕ) (needs : List Bool) (count : ℕ) : Type 0 where
  pub list : chosen_by t marks need needs ≡ l
  pub many : count ≡ length l

-- What is chosen from: rows, haves and lists that have been checked.
pub record Choosable (table index : List ℕ) (n : ℕ) (s haves need : List ℕ) (place count : ℕ) : Type 0 where
  pub rows : Indexed table index n
  pub filters : GoodFilters s haves
  pub syncs : SyncsInside s haves
  pub needs : place + sizes.hash * count ≤ length need
  pub few : count ≤ sizes.hashes
