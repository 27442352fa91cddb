-- The bytes of a table, which is reading one turned round. 01, Change table; 02, M-106, which has rows of two widths. A row has room for d dependencies.
use Rattle.std.specs.Prelude.{ℕ, ◌-◌, ◌*◌, ◌≤◌, ◌<◌, List, [], ◌∷◌, ◌++◌, ◌≡◌, length, replicate, Ok}
use Rattle.rules.specs.Hash.{Bytes, AreHashes, hash_bytes}
use Rattle.table.specs.Table.{Row, GoodTable, rows, deps_of}
use Rattle.table.specs.TableBytes.{u16s_bytes, row_size_of, whole_rows_of, table_checked_of}

-- The bytes of a row: hash, count, the numbers in use, and zeros for the others.
unfoldable pub row_bytes_of : ℕ → Row → List ℕ
row_bytes_of d r =
    hash_bytes r.hash
    ++ (u16s_bytes (length r.deps ∷ r.deps) ++ replicate (2 * (d - length r.deps)) 0)

-- The bytes of a table.
unfoldable pub table_bytes_of : ℕ → List Row → List ℕ
table_bytes_of d [] = []
table_bytes_of d (r ∷ t) = row_bytes_of d r ++ table_bytes_of d t

-- A table that its bytes can hold: hashes, and no more dependencies than there is room for.
pub record Holdable (d : ℕ) (t : List Row) : Type 0 where
  pub hashes : AreHashes (rows t)
  pub narrow : (i : ℕ) → i < length t → length (deps_of t i) ≤ d

-- Reading what was written gives the table back, writing what was read gives the bytes back, and what is written is good where the table is. Counts
-- and row numbers of two bytes are written as bytes.
pub record RoundTrip : Type 0 where
  pub read : (d : ℕ) (t : List Row) → Holdable d t → whole_rows_of d (table_bytes_of d t) ≡ t
  pub long : (d : ℕ) (t : List Row) → Holdable d t → length (table_bytes_of d t) ≡ length t * row_size_of d
  pub written : (d most : ℕ) (s : List ℕ) (n : ℕ) → Bytes s → table_checked_of d most s ≡ Ok n → table_bytes_of d (whole_rows_of d s) ≡ s
  pub good : (d most : ℕ) (t : List Row) → GoodTable t → Holdable d t → length t ≤ most → table_checked_of d most (table_bytes_of d t) ≡ Ok (length t)
  pub bytes : (d : ℕ) (t : List Row) → GoodTable t → Holdable d t → d < 65536 → length t ≤ 65536 → Bytes (table_bytes_of d t)
