-- What a table's check is made of: rows whose hash an earlier row has, seen along the order of all rows, where of rows with the same hash a later
-- one stands before an earlier one; and an index that fits.
use Rattle.std.specs.Prelude.{ℕ, ◌*◌, ◌/◌, ◌≤◌, min, Bool, cond, not, ◌&&◌, List, ◌≡◌, eqb, leb, length, Result, Ok}
use Rattle.hash_order.specs.Order.{member}
use Rattle.rules.specs.Hash.{hash_at}
use Rattle.rules.specs.Sizes.{sizes}
use Rattle.table.specs.TableBytes.{u16s_at, row_size_of, rows_of, row_size, rows_at}
use Rattle.table.specs.Table.{rows}
use Rattle.table.specs.Widths.{checked_as}
use Rattle.table.specs.declared.width.Width.{Width}
use Rattle.table_index.specs.Index.{indexed, index_fits, record_hash}
use Rattle.rules.specs.declared.refusal.Refusal.{Refusal}

-- Whether no earlier row has row i's hash, where rows have room for d dependencies.
unfoldable pub new_hash : ℕ → List ℕ → ℕ → Bool
new_hash d s i = not (member (hash_at s (i * row_size_of d)) (rows (rows_of d s 0 i)))

-- The lesser of a number and an entry, if the entry's next has the same hash; else the number. f tells a row's hash.
unfoldable pub or_repeat : (ℕ → ℕ) → ℕ → ℕ → ℕ → ℕ
or_repeat f first x y = cond (eqb (f x) (f y)) (min x first) first

-- The first n rows, and entries that are their order.
pub record RowOrder (d : ℕ) (s x : List ℕ) (n : ℕ) : Type 0 where
  pub inside : n * row_size_of d ≤ length s
  pub entries : 2 * n ≤ length x
  pub order : u16s_at x 0 n ≡ indexed (record_hash s (row_size_of d)) n

-- A table of a width as it is checked, and if it is good, the order of its rows that was left.
pub record CheckedInOrder (w : Width) (s x : List ℕ) (r : Result ℕ Refusal) : Type 0 where
  pub answer : r ≡ checked_as w s
  pub order : (n : ℕ) → r ≡ Ok n → RowOrder w.dependencies s x n

-- Whether a table is within its limit and an index fits its whole rows.
unfoldable pub fits_within : List ℕ → List ℕ → Bool
fits_within s x = leb (length s) (sizes.rows * row_size) && index_fits (rows_at s 0 (length s / row_size)) x
