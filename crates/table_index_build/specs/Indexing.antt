-- What building and extending an index write. 02, M-100: built from any good table, extended by one row at a time with the same result.
use Rattle.std.specs.Prelude.{ℕ, ◌-◌, ◌+◌, ◌≤◌, ◌<◌, Bool, cond, ◌&&◌, List, ◌≡◌, ltb, get_or}
use Rattle.table_index.specs.Index.{put, index_of, index_fits}
use Rattle.rules.specs.Output.{Output}
use Rattle.rules.specs.declared.refusal.Refusal.TheVariants.{BadIndex}
use Rattle.table.specs.TableBytes.{u16s_at, u16s_bytes, rows_at, table_of, table_checked}
use Rattle.table.specs.TableCalls.{after_check}
use Rattle.table.specs.Table.{hash_of}

-- The index of a table, two bytes for each row number, the lower first: 4 and 6 for the table.
unfoldable pub built_output : List ℕ → Output
built_output s = after_check (table_checked s) (λ n. Output.bytes (u16s_bytes (index_of (table_of s))))

-- Whether an index fits all rows but the last; where there is no row none does.
unfoldable pub fits_but_last : List ℕ → ℕ → List ℕ → Bool
fits_but_last s n x = ltb 0 n && index_fits (rows_at s 0 (n - 1)) x

-- The index of all rows but the last, with the last row put in: 4 and 6 for the table, then 12.
unfoldable pub extended_output : List ℕ → List ℕ → Output
extended_output s x =
    after_check (table_checked s)
    (λ n.
    cond (fits_but_last s n x)
    (Output.bytes (u16s_bytes (put (hash_of (table_of s)) (n - 1) (u16s_at x 0 (n - 1)))))
    (Output.refuse BadIndex))

-- ---- what internal contracts speak of

-- The bytes from a place up to an end moved up by an entry's size; those before the place as they were. What stands behind is of no account.
pub record Shifted (before after : List ℕ) (place end : ℕ) : Type 0 where
  pub low : (j : ℕ) → j < place → get_or after j 0 ≡ get_or before j 0
  pub high : (j : ℕ) → place ≤ j → j < end → get_or after (j + 2) 0 ≡ get_or before j 0
