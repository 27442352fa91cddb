-- Change tables as values. 01, Change table. What the layers above mean is said of these, not of row bytes.
use Rattle.std.specs.Prelude.{ℕ, suc, ◌<◌, Bool, true, cond, List, [], ◌∷◌, map, ◌≡◌, eqb, length, get_or}
use Rattle.hash_order.specs.Order.{member, ascends, Once}

-- A change: its hash, and its dependencies by row number. A table is a list of rows.
pub record Row : Type 0 where
  pub hash : ℕ
  pub deps : List ℕ

-- What stands beyond the last row.
abbrev pub no_row : Row
no_row = record { hash = 0; deps = [] }

-- The hashes of a table, in its order.
unfoldable pub rows : List Row → List ℕ
rows t = map (λ (r : Row). r.hash) t

-- The hash of row i.
unfoldable pub hash_of : List Row → ℕ → ℕ
hash_of t i = get_or (rows t) i 0

-- The rows that row i depends on.
unfoldable pub deps_of : List Row → ℕ → List ℕ
deps_of t i = (get_or t i no_row).deps

-- A good table: no hash twice; each row's numbers ascending and below its own.
pub record GoodTable (t : List Row) : Type 0 where
  pub once : Once (rows t)
  pub down : (i k : ℕ) → i < length t → member k (deps_of t i) ≡ true → k < i
  pub ordered : (i : ℕ) → i < length t → ascends (deps_of t i) ≡ true

-- The place of the first number that is h, or the list's length where none is.
unfoldable pub index_in : List ℕ → ℕ → ℕ
index_in [] h = 0
index_in (x ∷ xs) h = cond (eqb x h) 0 (suc (index_in xs h))

-- The row of a hash.
unfoldable pub row_number : List Row → ℕ → ℕ
row_number t h = index_in (rows t) h

-- Whether a table has a hash.
unfoldable pub held : List Row → ℕ → Bool
held t h = member h (rows t)

-- The hashes that a hash's row depends on; none for an unknown hash.
unfoldable pub deps : List Row → ℕ → List ℕ
deps t h = map (hash_of t) (deps_of t (row_number t h))

-- The hashes of the rows, in table order, for whose numbers p holds; numbers are counted from i.
unfoldable pub rows_from : ℕ → List Row → (ℕ → Bool) → List ℕ
rows_from i [] p = []
rows_from i (r ∷ rs) p = cond (p i) (r.hash ∷ rows_from (suc i) rs p) (rows_from (suc i) rs p)

-- The hashes of the rows, in table order, for whose numbers p holds; the first row's number is 0.
unfoldable pub rows_where : List Row → (ℕ → Bool) → List ℕ
rows_where t p = rows_from 0 t p
