-- The converter between change rows of two widths. 02, M-106: from the old change rows to the new and back. Refusals come in this order: 4 and 6 by
-- the rules of the width that is read, 4 for more rows than the other width may have, 13 for a row that it has no room for, and 7, which is the call's.
use Rattle.std.specs.Prelude.{ℕ, ◌*◌, ◌/◌, Bool, cond, List, ◌≡◌, ltb, leb, length, Ok}
use Rattle.rules.specs.Hash.{Bytes}
use Rattle.rules.specs.Output.{Output}
use Rattle.rules.specs.declared.refusal.Refusal.TheVariants.{PastSize, TooWide}
use Rattle.table.specs.Table.{Row, deps_of}
use Rattle.table.specs.TableBytes.{row_size_of, whole_rows_of, first_bad}
use Rattle.table.specs.TableCalls.{after_check}
use Rattle.table.specs.TableWritten.{table_bytes_of}
use Rattle.table.specs.Widths.{narrow_rows, wide_rows, Sized, checked_as}
use Rattle.table.specs.declared.width.Width.{Width}
use Rattle.table_index.specs.Index.{index_fits}

-- 4 and 6 by a width's own rules, then what follows the table.
unfoldable pub table_as : Width → List ℕ → (List Row → Output) → Output
table_as w s k = after_check (checked_as w s) (λ n. k (whole_rows_of w.dependencies s))

-- A row that has no more dependencies than there is room for.
unfoldable pub row_fits : ℕ → List Row → ℕ → Bool
row_fits d t i = leb (length (deps_of t i)) d

-- The first row that is too wide, or the number of rows.
unfoldable pub first_wide : ℕ → List Row → ℕ
first_wide d t = first_bad (row_fits d t) 0 (length t)

-- A table as bytes of a width: 4 for more rows than it may have, then 13 with the first row that is too wide.
unfoldable pub bytes_as : Width → List Row → Output
bytes_as w t =
    cond (ltb w.rows (length t))
    (Output.refuse (PastSize 0))
    (cond (ltb (first_wide w.dependencies t) (length t))
    (Output.refuse (TooWide (first_wide w.dependencies t)))
    (Output.bytes (table_bytes_of w.dependencies t)))

-- From rows of one width to rows of another.
unfoldable pub converted : Width → Width → List ℕ → Output
converted from to s = table_as from s (bytes_as to)

-- The old rows as new ones. 4 after 6 and 13 are never come to: an old table is shorter than a new one may be, and its rows fit.
abbrev pub widened : List ℕ → Output
widened s = converted narrow_rows wide_rows s

-- The new rows as old ones.
abbrev pub narrowed : List ℕ → Output
narrowed s = converted wide_rows narrow_rows s

-- ---- what is shown of it, over any two widths

-- A table that one width is converted from and the other to.
pub record Converts (from to : Width) : Type 0 where
  -- the same values
  pub values : (s r : List ℕ) → Bytes s → converted from to s ≡ Output.bytes r → whole_rows_of to.dependencies r ≡ whole_rows_of from.dependencies s
  -- good stays good, with as many rows
  pub good : (s r : List ℕ) → Bytes s → converted from to s ≡ Output.bytes r → checked_as to r ≡ Ok (length (whole_rows_of from.dependencies s))
  -- what is written are bytes
  pub bytes : (s r : List ℕ) → Bytes s → converted from to s ≡ Output.bytes r → Bytes r
  -- there and back is the same bytes
  pub back : (s r : List ℕ) → Bytes s → converted from to s ≡ Output.bytes r → converted to from r ≡ Output.bytes s
  -- an index fits just if it fitted: it is of hashes and row numbers alone
  pub index : (s r x : List ℕ) → Bytes s → converted from to s ≡ Output.bytes r
      → index_fits (whole_rows_of to.dependencies r) x ≡ index_fits (whole_rows_of from.dependencies s) x
  -- so many bytes
  pub long : (s r : List ℕ) → Bytes s → converted from to s ≡ Output.bytes r
      → length r ≡ length s / row_size_of from.dependencies * row_size_of to.dependencies

-- Nothing but 4 and 6 by the old rules refuses a table that is widened.
abbrev pub Widens : Type 0
Widens = (s : List ℕ) (n : ℕ) → checked_as narrow_rows s ≡ Ok n → (r : List ℕ) × (widened s ≡ Output.bytes r)

-- All that is shown of the converter, both ways round, since it holds of any two widths of which the one that is written has counts and row numbers
-- of two bytes, as both widths have.
abbrev pub M106 : Type 0
M106 = Sized narrow_rows × Sized wide_rows × ((from to : Width) → Sized to → Converts from to) × Widens
