-- What isn't in use of a house record, which is to be zeros. 01, Change table, and Waiting table.
use Rattle.std.specs.Prelude.{ℕ, zero, suc, ◌+◌, Bool, true, ◌&&◌, List, [], ◌∷◌, eqb, get_or}

-- The bytes from a place on, as many as the last argument says.
unfoldable pub bytes_at : List ℕ → ℕ → ℕ → List ℕ
bytes_at s at zero = []
bytes_at s at (suc count) = get_or s at 0 ∷ bytes_at s (at + 1) count

-- Nothing but zeros.
unfoldable pub zeros : List ℕ → Bool
zeros [] = true
zeros (x ∷ xs) = eqb x 0 && zeros xs
