-- The words of a stored answer, little-endian, each of two numbers of four bytes.
use Rattle.std.specs.Prelude.{ℕ, ◌+◌, ◌*◌, List, [], ◌∷◌}
use Rattle.rules.specs.LittleEndian.{u32_at}

-- The number that eight bytes are.
unfoldable pub u64_at : List ℕ → ℕ → ℕ
u64_at s at = u32_at s at + 4294967296 * u32_at s (at + 4)

-- The four words of an answer.
unfoldable pub words_at : List ℕ → ℕ → List ℕ
words_at s at = u64_at s at ∷ u64_at s (at + 8) ∷ u64_at s (at + 16) ∷ u64_at s (at + 24) ∷ []
