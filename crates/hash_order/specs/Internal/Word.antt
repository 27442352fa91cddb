-- Words: the bytes of a hash that are compared at once.
use Rattle.std.specs.Prelude.{ℕ, ◌+◌, ◌*◌, List, get_or}
use Rattle.std.proofs.Math.Seq.{slice}
use Rattle.rules.specs.Hash.{big_endian}

-- Bytes of a word.
abbrev pub word_size : ℕ
word_size = 8

-- Bytes of half a word.
abbrev pub half_size : ℕ
half_size = 4

-- Half a word holds the numbers below this one.
abbrev pub half_limit : ℕ
half_limit = 4294967296

-- The number that half a word is, the first byte highest.
unfoldable pub half_at : List ℕ → ℕ → ℕ
half_at s at = get_or s (at + 3) 0 + 256 * (get_or s (at + 2) 0 + 256 * (get_or s (at + 1) 0 + 256 * get_or s at 0))

-- The number that a word is.
unfoldable pub word_at : List ℕ → ℕ → ℕ
word_at s at = big_endian (slice at (at + word_size) s)
