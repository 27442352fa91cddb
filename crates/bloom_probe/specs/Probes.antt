-- Where a hash probes a bit field. 01, "Probes".
use Rattle.std.specs.Prelude.{ℕ, zero, suc, ◌+◌, ◌/◌, ◌%◌, ◌^◌, max, List, [], ◌∷◌, get_or}
use Rattle.rules.specs.Hash.{hash_bytes}
use Rattle.rules.specs.LittleEndian.{u32_at}

-- The probes of x, y, z: first x; then x becomes (x + y) mod m, after it y becomes (y + z) mod m, and x is the next.
unfoldable pub probes_from : ℕ → ℕ → ℕ → ℕ → ℕ → List ℕ
probes_from zero m x y z = []
probes_from (suc k) m x y z = x ∷ probes_from k m ((x + y) % m) ((y + z) % m) z

-- The probes of a hash in a field of m bits: x, y, z are its first three words mod m, and there are max(1, p).
unfoldable pub probes_of : ℕ → ℕ → ℕ → List ℕ
probes_of m p h = probes_from (max 1 p) m (u32_at (hash_bytes h) 0 % m) (u32_at (hash_bytes h) 4 % m) (u32_at (hash_bytes h) 8 % m)

-- Bit k is bit k mod 8 of byte k / 8.
unfoldable pub bit_at : List ℕ → ℕ → ℕ
bit_at field k = get_or field (k / 8) 0 / 2 ^ (k % 8) % 2
