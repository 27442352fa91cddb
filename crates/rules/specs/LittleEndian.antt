-- Little-endian numbers at a place of bytes: a row number, and a word of a hash as it is probed with. 01, Change table, and Wire, Probes.
use Rattle.std.specs.Prelude.{ℕ, ◌+◌, ◌*◌, List, get_or}

-- The number that two bytes are.
unfoldable pub u16_at : List ℕ → ℕ → ℕ
u16_at s at = get_or s at 0 + 256 * get_or s (at + 1) 0

-- The number that four bytes are.
unfoldable pub u32_at : List ℕ → ℕ → ℕ
u32_at s at = get_or s at 0 + 256 * (get_or s (at + 1) 0 + 256 * (get_or s (at + 2) 0 + 256 * get_or s (at + 3) 0))
