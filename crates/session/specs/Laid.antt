-- Haves laid out, as a session keeps them and a plan gives them: a record of seven words each, over bytes that have each have's last-sync hashes and
-- then its field, one have after the other from the first byte on. 01, Shapes that can't come over.
use Rattle.std.specs.Prelude.{ℕ, ◌+◌, ◌*◌, List, [], ◌∷◌, ◌++◌, length}
use Rattle.bloom.specs.Have.{Have}
use Rattle.rules.specs.Hash.{hashes_bytes}
use Rattle.rules.specs.Sizes.{sizes}

-- The bytes of haves, one after the other: last-sync hashes, then the field.
unfoldable pub laid_bytes : List Have → List ℕ
laid_bytes [] = []
laid_bytes (v ∷ vs) = hashes_bytes v.last_sync ++ (v.filter.field ++ laid_bytes vs)

-- Records of haves whose bytes start at a place.
unfoldable pub laid_from : ℕ → List Have → List ℕ
laid_from at [] = []
laid_from at (v ∷ vs) =
    at
    ∷ length v.last_sync
    ∷ v.filter.entries
    ∷ v.filter.bits
    ∷ v.filter.probes
    ∷ (at + sizes.hash * length v.last_sync)
    ∷ length v.filter.field
    ∷ laid_from (at + sizes.hash * length v.last_sync + length v.filter.field) vs

-- The words of their records, over those bytes from the first on.
unfoldable pub laid_words : List Have → List ℕ
laid_words vs = laid_from 0 vs
