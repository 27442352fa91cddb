-- Change tables of two widths. 01, Change table, for the old one; 02, M-106, for the new one. Rows of both are read by the same definitions
-- (TableBytes), over how many dependencies a row has room for.
use Rattle.std.specs.Prelude.{ℕ, ◌*◌, ◌≤◌, ◌<◌, List, length, Result}
use Rattle.rules.specs.Sizes.{sizes}
use Rattle.table.specs.TableBytes.{row_size_of, table_checked_of}
use Rattle.table.specs.declared.width.Width.{Width}
use Rattle.rules.specs.declared.refusal.Refusal.{Refusal}

-- As rows are: room for as many dependencies as a change may have, in a table of as many rows as one may have.
abbrev pub wide_rows : Width
wide_rows = record { dependencies = sizes.dependencies; rows = sizes.rows }

-- As rows were before M-106: 64 bytes, with room for 15 dependencies, in a table of at most 1,024 rows.
abbrev pub narrow_rows : Width
narrow_rows = record { dependencies = 15; rows = 1024 }

-- A width whose counts and row numbers have two bytes.
pub record Sized (w : Width) : Type 0 where
  pub counts : w.dependencies < 65536
  pub numbers : w.rows ≤ 65536

-- A table of a width, checked by the width's own rules: 4, then 6.
abbrev pub checked_as : Width → List ℕ → Result ℕ Refusal
checked_as w s = table_checked_of w.dependencies w.rows s

-- Bytes within a width's limit.
abbrev pub WithinRows : Width → List ℕ → Type 0
WithinRows w s = length s ≤ w.rows * row_size_of w.dependencies
