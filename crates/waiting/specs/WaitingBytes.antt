-- The house records of waiting rows, and when a waiting table is bad. 01, Waiting table; Refusal numbers, 4 and 9.
-- As for change rows, all of it is said over d, the dependencies that a row has room for, in names that end in `Of`; the names without it are for
-- as many dependencies as a change may have.
use Rattle.std.specs.Prelude.{ℕ, zero, suc, ◌+◌, ◌-◌, ◌*◌, ◌/◌, ◌≤◌, Bool, true, not, ◌&&◌, List, [], ◌∷◌, ◌≡◌, leb, length, get_or, Result, Ok, Err}
use Rattle.table_index.specs.Index.{fits_by, record_hash}
use Rattle.hash_order.specs.Order.{member}
use Rattle.rules.specs.Hash.{hash_at, hashes_at}
use Rattle.rules.specs.Sizes.{sizes}
use Rattle.rules.specs.Zeros.{bytes_at, zeros}
use Rattle.rules.specs.declared.refusal.Refusal.TheVariants.{BadWaitingRow}
use Rattle.table.specs.TableBytes.{u16s_at, first_bad, checked_with}
use Rattle.table.specs.Table.{Row, held}
use Rattle.waiting.specs.Waiting.{Waiting, waiting}
use Rattle.rules.specs.declared.refusal.Refusal.{Refusal}

-- Waiting row: hash, count byte and zeros up to the size of a hash, and d hashes.
abbrev pub waiting_size_of : ℕ → ℕ
waiting_size_of d = sizes.hash * (2 + d)

-- How many hashes row i says that it asks for.
unfoldable pub asks_count_of : ℕ → List ℕ → ℕ → ℕ
asks_count_of d s i = get_or s (i * waiting_size_of d + sizes.hash) 0

-- Where the first hash that row i asks for stands.
abbrev pub asks_place_of : ℕ → ℕ → ℕ
asks_place_of d i = i * waiting_size_of d + 2 * sizes.hash

-- Row i: its hash, and the hashes that it asks for.
unfoldable pub waiting_row_of : ℕ → List ℕ → ℕ → Waiting
waiting_row_of d s i =
    record {
      hash = hash_at s (i * waiting_size_of d);
      asks = hashes_at s (asks_place_of d i) (asks_count_of d s i);
    }

-- The waiting rows from row i on, as many as the last argument says.
unfoldable pub waiting_rows_of : ℕ → List ℕ → ℕ → ℕ → List Waiting
waiting_rows_of d s i zero = []
waiting_rows_of d s i (suc count) = waiting_row_of d s i ∷ waiting_rows_of d s (suc i) count

-- All whole rows of the bytes.
unfoldable pub whole_waiting_of : ℕ → List ℕ → List Waiting
whole_waiting_of d s = waiting_rows_of d s 0 (length s / waiting_size_of d)

-- The bytes between the count and the hashes.
unfoldable pub fill_of : ℕ → List ℕ → ℕ → List ℕ
fill_of d s i = bytes_at s (i * waiting_size_of d + sizes.hash + 1) (sizes.hash - 1)

-- The hashes that aren't in use.
unfoldable pub unasked_of : ℕ → List ℕ → ℕ → List ℕ
unasked_of d s i = hashes_at s (asks_place_of d i + sizes.hash * asks_count_of d s i) (d - asks_count_of d s i)

-- A good waiting row: its count is at most d, and zeros follow it; unused hashes are zero; its own hash stands neither in an earlier waiting row
-- nor in the change table.
unfoldable pub waiting_good_of : ℕ → List Row → List ℕ → ℕ → Bool
waiting_good_of d t s i =
    leb (asks_count_of d s i) d
    && zeros (fill_of d s i)
    && zeros (unasked_of d s i)
    && not (member (hash_at s (i * waiting_size_of d)) (waiting (waiting_rows_of d s 0 i)))
    && not (held t (hash_at s (i * waiting_size_of d)))

-- A waiting table beside a change table: 4, then 9.
unfoldable pub waiting_checked_of : ℕ → List Row → List ℕ → Result ℕ Refusal
waiting_checked_of d t s = checked_with (λ i. Err (BadWaitingRow i)) (waiting_good_of d t s) (waiting_size_of d) sizes.waiting_rows (length s)

-- Bytes of a waiting row as 01 has it: with room for as many hashes as a change may have dependencies. The names below are those above at that width.
abbrev pub waiting_size : ℕ
waiting_size = waiting_size_of sizes.dependencies

-- How many hashes row i says that it asks for.
abbrev pub asks_count : List ℕ → ℕ → ℕ
asks_count s i = asks_count_of sizes.dependencies s i

-- `count` waiting rows from row i on.
abbrev pub waitings_at : List ℕ → ℕ → ℕ → List Waiting
waitings_at s i count = waiting_rows_of sizes.dependencies s i count

-- The waiting table that bytes are.
abbrev pub waiting_of : List ℕ → List Waiting
waiting_of s = whole_waiting_of sizes.dependencies s

-- 4, then 9, or how many rows a waiting table has.
abbrev pub waiting_checked : List Row → List ℕ → Result ℕ Refusal
waiting_checked t s = waiting_checked_of sizes.dependencies t s

-- ---- what internal contracts speak of

-- The numbers of the first m waiting rows in ascending order of hash, as many as rows, in a scratch of a call's own.
pub record Sorted (w o : List ℕ) (m : ℕ) : Type 0 where
  pub inside : m * waiting_size ≤ length w
  pub entries : 2 * m ≤ length o
  pub fit : fits_by (record_hash w waiting_size) m (u16s_at o 0 m) ≡ true

-- The first bad one of the first m waiting rows; where there is none, they stand in order.
pub record FirstBad (t : List Row) (w : List ℕ) (m : ℕ) (o : List ℕ) (r : ℕ) : Type 0 where
  pub is : r ≡ first_bad (waiting_good_of sizes.dependencies t w) 0 m
  pub sorted : m ≤ r → Sorted w o m

-- A waiting table's check; where it is good, its rows stand in order.
pub record InOrder (t : List Row) (w o : List ℕ) (r : Result ℕ Refusal) : Type 0 where
  pub answer : r ≡ waiting_checked t w
  pub sorted : (m : ℕ) → r ≡ Ok m → Sorted w o m
