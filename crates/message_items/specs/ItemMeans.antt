-- What the bytes of haves mean. 01, Wire, Message: one have after the other, a hash list and a filter's string each. What `haves_at` reads means its
-- haves: the law `haves-mean`.
use Rattle.std.specs.Prelude.{ℕ, ◌≤◌, List, [], ◌∷◌, ◌++◌, ◌≡◌, length}
use Rattle.bloom.specs.Have.{Have}
use Rattle.bloom.specs.FilterMeans.{FilterMeans}
use Rattle.rules.specs.Sizes.{sizes}
use Rattle.wire.specs.Item.{prefixed_bytes, hash_list_bytes}

-- A have: its last-sync hashes, and the string of its filter.
pub record HaveMeans (bytes : List ℕ) (h : Have) : Type 0 where
  pub few : length h.last_sync ≤ sizes.hashes
  pub string : List ℕ
  pub is : bytes ≡ hash_list_bytes h.last_sync ++ prefixed_bytes string
  pub filter : FilterMeans string h.filter

-- Haves one after the other, and nothing else.
unfoldable pub HavesMean : List ℕ → List Have → Type 0
HavesMean bytes [] = bytes ≡ []
HavesMean bytes (h ∷ hs) = (first : List ℕ) × (rest : List ℕ) × (bytes ≡ first ++ rest) × HaveMeans first h × HavesMean rest hs
