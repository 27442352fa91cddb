-- What internal contracts speak of: a list and a pick as marks of the rows that they name. No rule of 02 stands here.
use Rattle.std.specs.Prelude.{ℕ, Bool, false, not, ◌&&◌, ◌||◌, List, ◌≡◌, ltb, leb, length, get_or, Result}
use Rattle.hash_order.specs.Order.{member, every}
use Rattle.table.specs.Table.{rows, hash_of}
use Rattle.table.specs.TableBytes.{used_at, rows_at}
use Rattle.table_graph.specs.Internal.Marks.{Marks, picked}
use Rattle.pick.specs.Picking.{pick_checked, pick_of}

-- The marks of just the rows whose hashes stand in a list.
abbrev pub RowMarks : List ℕ → ℕ → List ℕ → List Bool → Type 0
RowMarks table n list m = Marks n m (λ i. member (hash_of (rows_at table 0 n) i) list)

-- Each of some rows that is listed is picked.
unfoldable pub marked_go : List Bool → List Bool → List ℕ → Bool
marked_go listed picks ks = every (λ k. not (get_or listed k false) || get_or picks k false) ks

-- One of the first n rows that breaks no rule: it is listed, isn't before the first that it may be, and what it depends on goes with it.
unfoldable pub row_may_go : List ℕ → ℕ → List Bool → List Bool → ℕ → ℕ → Bool
row_may_go table n listed picks from row =
    (ltb row n && get_or listed row false) && (leb from row && marked_go listed picks (used_at table row))

-- Row i goes now: it is listed, what it depends on goes with it, and its size fits what is left.
unfoldable pub row_goes : List ℕ → List Bool → List Bool → ℕ → ℕ → ℕ → Bool
row_goes table listed picks size left i = get_or listed i false && (marked_go listed picks (used_at table i) && leb size left)

-- What a check of hashes over marks leaves: its answer, whatever list the listed rows are those of, and the marks of the rows that are picked.
pub record MarksChecked (table : List ℕ) (n : ℕ) (rowSizes : List ℕ) (budget : ℕ) (pick : List ℕ) (listed picks : List Bool) (r : Result Unit ℕ) : Type 0 where
  pub answer : (list : List ℕ) → RowMarks table n list listed → r ≡ pick_checked (rows_at table 0 n) list rowSizes budget pick
  pub marks : RowMarks table n pick picks

-- What the planner leaves over marks: the rows of its pick, and how many they are, whatever list the listed rows are those of.
pub record MarksPicked (table : List ℕ) (n : ℕ) (rowSizes : List ℕ) (budget : ℕ) (list : List ℕ) (picks : List Bool) (count : ℕ) : Type 0 where
  pub hashes : picked (rows (rows_at table 0 n)) picks ≡ pick_of (rows_at table 0 n) list rowSizes budget
  pub many : count ≡ length (pick_of (rows_at table 0 n) list rowSizes budget)
