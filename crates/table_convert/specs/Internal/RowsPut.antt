-- Rows put as rows of another width.
use Rattle.std.specs.Prelude.{ℕ, ◌*◌, ◌≤◌, ◌<◌, Bool, List, leb, length}
use Rattle.table.specs.TableBytes.{row_size_of, count_of}

-- Whether row i, which has room for d dependencies, says no more of them than there is room for.
unfoldable pub count_fits : ℕ → ℕ → List ℕ → ℕ → Bool
count_fits d room s i = leb (count_of d s i) room

-- The first n rows of a table, whose counts fit both widths.
pub record Fitting (from to : ℕ) (s : List ℕ) (n : ℕ) : Type 0 where
  pub inside : n * row_size_of from ≤ length s
  pub own : (i : ℕ) → i < n → count_of from s i ≤ from
  pub narrow : (i : ℕ) → i < n → count_of from s i ≤ to
