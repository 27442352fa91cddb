-- The house records of change rows, and when a table is bad. 01, Change table; Refusal numbers, 4 and 6: bytes at the end that are no whole record
-- are a bad row with the next number.
-- A row has room for d dependencies. All of it is said over d, in names that end in `Of`; the names without it are for as many dependencies as a
-- change may have.
use Rattle.std.specs.Prelude.{ℕ, zero, suc, ◌+◌, ◌-◌, ◌*◌, ◌/◌, ◌%◌, ◌≤◌, ◌<◌, Bool, cond, not, ◌&&◌, List, [], ◌∷◌, ltb, leb, length, Result, Ok, Err}
use Rattle.hash_order.specs.Order.{member, every, ascends}
use Rattle.rules.specs.Hash.{hash_at}
use Rattle.rules.specs.LittleEndian.{u16_at}
use Rattle.rules.specs.Sizes.{sizes}
use Rattle.rules.specs.Zeros.{zeros}
use Rattle.rules.specs.declared.refusal.Refusal.TheVariants.{PastSize, BadRow}
use Rattle.table.specs.Table.{Row, GoodTable, rows}
use Rattle.rules.specs.declared.refusal.Refusal.{Refusal}

-- The two-byte numbers that stand one after the other from a place on, as many as the last argument says.
unfoldable pub u16s_at : List ℕ → ℕ → ℕ → List ℕ
u16s_at s at zero = []
u16s_at s at (suc count) = u16_at s at ∷ u16s_at s (at + 2) count

-- Numbers as bytes: two for each, the lower first.
unfoldable pub u16s_bytes : List ℕ → List ℕ
u16s_bytes [] = []
u16s_bytes (x ∷ xs) = (x % 256) ∷ (x / 256) ∷ u16s_bytes xs

-- Change row: hash, count (two bytes), and d row numbers (two bytes each).
abbrev pub row_size_of : ℕ → ℕ
row_size_of d = sizes.hash + 2 * (1 + d)

-- How many row numbers row i says that it uses.
unfoldable pub count_of : ℕ → List ℕ → ℕ → ℕ
count_of d s i = u16_at s (i * row_size_of d + sizes.hash)

-- The row numbers in use.
unfoldable pub used_of : ℕ → List ℕ → ℕ → List ℕ
used_of d s i = u16s_at s (i * row_size_of d + sizes.hash + 2) (count_of d s i)

-- The row numbers that aren't in use.
unfoldable pub unused_of : ℕ → List ℕ → ℕ → List ℕ
unused_of d s i = u16s_at s (i * row_size_of d + sizes.hash + 2 + 2 * count_of d s i) (d - count_of d s i)

-- Row i: its hash, and the rows that it depends on.
unfoldable pub row_of : ℕ → List ℕ → ℕ → Row
row_of d s i = record { hash = hash_at s (i * row_size_of d); deps = used_of d s i }

-- The rows from row i on, as many as the last argument says.
unfoldable pub rows_of : ℕ → List ℕ → ℕ → ℕ → List Row
rows_of d s i zero = []
rows_of d s i (suc count) = row_of d s i ∷ rows_of d s (suc i) count

-- All whole rows of the bytes.
unfoldable pub whole_rows_of : ℕ → List ℕ → List Row
whole_rows_of d s = rows_of d s 0 (length s / row_size_of d)

-- The numbers in use: strictly ascending, and below the own row.
unfoldable pub numbers_good : ℕ → List ℕ → Bool
numbers_good i used = ascends used && every (λ k. ltb k i) used

-- A good row: its count is at most d; the numbers in use are good; the others are 0; no earlier row has its hash.
unfoldable pub row_good_of : ℕ → List ℕ → ℕ → Bool
row_good_of d s i =
    leb (count_of d s i) d
    && numbers_good i (used_of d s i)
    && zeros (unused_of d s i)
    && not (member (hash_at s (i * row_size_of d)) (rows (rows_of d s 0 i)))

-- The first row from row i on that isn't good, or the row behind those that are looked at, as many as the last argument says.
unfoldable pub first_bad : (ℕ → Bool) → ℕ → ℕ → ℕ
first_bad good i zero = i
first_bad good i (suc count) = cond (not (good i)) i (first_bad good (suc i) count)

-- Records of `size` bytes: the first bad one, which a partial record at the end is, with the next number; else how many there are.
unfoldable pub records_checked : (ℕ → Result ℕ Refusal) → (ℕ → Bool) → ℕ → ℕ → Result ℕ Refusal
records_checked bad good size bytes =
    cond (ltb (first_bad good 0 (bytes / size)) (bytes / size))
    (bad (first_bad good 0 (bytes / size)))
    (cond (ltb 0 (bytes % size))
    (bad (bytes / size))
    (Ok (bytes / size)))

-- A table of at most `most` records: 4 for more bytes, then the first bad one.
unfoldable pub checked_with : (ℕ → Result ℕ Refusal) → (ℕ → Bool) → ℕ → ℕ → ℕ → Result ℕ Refusal
checked_with bad good size most bytes = cond (ltb (most * size) bytes) (Err (PastSize 0)) (records_checked bad good size bytes)

-- A change table of at most `most` rows: 4, then 6.
unfoldable pub table_checked_of : ℕ → ℕ → List ℕ → Result ℕ Refusal
table_checked_of d most s = checked_with (λ i. Err (BadRow i)) (row_good_of d s) (row_size_of d) most (length s)

-- Bytes of a change row as 01 has it: with room for as many dependencies as a change may have. The names below are those above at that width.
abbrev pub row_size : ℕ
row_size = row_size_of sizes.dependencies

-- How many dependencies row i says that it has.
abbrev pub dep_count : List ℕ → ℕ → ℕ
dep_count s i = count_of sizes.dependencies s i

-- The row numbers that it uses.
abbrev pub used_at : List ℕ → ℕ → List ℕ
used_at s i = used_of sizes.dependencies s i

-- `count` rows from row i on.
abbrev pub rows_at : List ℕ → ℕ → ℕ → List Row
rows_at s i count = rows_of sizes.dependencies s i count

-- The table that bytes are.
abbrev pub table_of : List ℕ → List Row
table_of s = whole_rows_of sizes.dependencies s

-- 4, then 6, or how many rows a change table has.
abbrev pub table_checked : List ℕ → Result ℕ Refusal
table_checked s = table_checked_of sizes.dependencies sizes.rows s

-- The one precondition of what computes over a checked table: its first n rows stand there, are no more than a table may have, and are a good
-- table, each with no more dependencies than a change may have.
pub record GoodRows (s : List ℕ) (n : ℕ) : Type 0 where
  pub few : n ≤ sizes.rows
  pub inside : n * row_size ≤ length s
  pub counts : (i : ℕ) → i < n → dep_count s i ≤ sizes.dependencies
  pub good : GoodTable (rows_at s 0 n)
