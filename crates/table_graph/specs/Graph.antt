-- The graph that a change table is. 01, Change table: heads, ancestors, rows beyond a list.
use Rattle.std.specs.Prelude.{ℕ, Bool, false, cond, not, List, length}
use Rattle.hash_order.specs.Order.{member, ascend}
use Rattle.hash_order.specs.Reach.{some_below, reach}
use Rattle.table.specs.Table.{Row, hash_of, deps_of, row_number, held, rows_where}

-- Whether some row depends on row i.
unfoldable pub needed : List Row → ℕ → Bool
needed t i = some_below (length t) (λ k. member i (deps_of t k))

-- 01, Change table: heads are the rows that no row depends on, in ascending order of bytes.
unfoldable pub heads : List Row → List ℕ
heads t = ascend (rows_where t (λ i. not (needed t i)))

-- Rows in L and their ancestors, by row number: reached from L's known rows over dependencies. Unknown hashes in L are ignored.
unfoldable pub below_row : List Row → List ℕ → ℕ → Bool
below_row t l i = reach (length t) (λ k. member (hash_of t k) l) (λ k j. member j (deps_of t k)) i

-- Whether a hash is held, and its row is one in L or an ancestor of one.
unfoldable pub below : List Row → List ℕ → ℕ → Bool
below t l h = cond (held t h) (below_row t l (row_number t h)) false

-- Rows beyond L: neither in L nor ancestors of it, in table order.
unfoldable pub beyond : List Row → List ℕ → List ℕ
beyond t l = rows_where t (λ i. not (below_row t l i))
