-- A hash and a hash list as values. 01, Sizes, Wire (lists stay as they stand) and Change table (order is by bytes).
use Rattle.std.specs.Prelude.{ℕ, zero, suc, ◌+◌, ◌*◌, ◌/◌, ◌%◌, ◌^◌, ◌<◌, Bool, false, ◌||◌, ◌&&◌, List, [], ◌∷◌, ◌++◌, ltb, eqb, length, get_or}
use Rattle.std.proofs.Math.Seq.{slice}
use Rattle.rules.specs.Sizes.{sizes}

-- Each element is a byte; an index past the end reads 0.
abbrev pub Bytes : List ℕ → Type 0
Bytes s = (i : ℕ) → get_or s i 0 < 256

-- The number that bytes are, the first byte highest.
unfoldable pub big_endian : List ℕ → ℕ
big_endian [] = 0
big_endian (b ∷ bs) = b * 256 ^ length bs + big_endian bs

-- The k bytes that a number is, the highest first.
unfoldable pub big_endian_bytes : ℕ → ℕ → List ℕ
big_endian_bytes zero x = []
big_endian_bytes (suc k) x = x / 256 ^ k % 256 ∷ big_endian_bytes k x

-- Ascending bytes: the first byte that differs decides.
unfoldable pub bytes_before : List ℕ → List ℕ → Bool
bytes_before [] ys = false
bytes_before (x ∷ xs) [] = false
bytes_before (x ∷ xs) (y ∷ ys) = ltb x y || (eqb x y && bytes_before xs ys)

-- A number that some hash is.
abbrev pub IsHash : ℕ → Type 0
IsHash h = h < 256 ^ sizes.hash

-- Each element is a hash.
unfoldable pub AreHashes : List ℕ → Type 0
AreHashes [] = Unit {0}
AreHashes (h ∷ hs) = IsHash h × AreHashes hs

-- The hash at a place of bytes.
unfoldable pub hash_at : List ℕ → ℕ → ℕ
hash_at s place = big_endian (slice place (place + sizes.hash) s)

-- The hashes that stand one after the other from a place on, as many as the last argument says.
unfoldable pub hashes_at : List ℕ → ℕ → ℕ → List ℕ
hashes_at s place zero = []
hashes_at s place (suc count) = hash_at s place ∷ hashes_at s (place + sizes.hash) count

-- The bytes of a hash.
unfoldable pub hash_bytes : ℕ → List ℕ
hash_bytes h = big_endian_bytes sizes.hash h

-- The bytes of hashes, one after the other.
unfoldable pub hashes_bytes : List ℕ → List ℕ
hashes_bytes [] = []
hashes_bytes (h ∷ hs) = hash_bytes h ++ hashes_bytes hs
