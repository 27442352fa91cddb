-- Messages as values and as bytes. 01, Wire, Message: a first byte for the version, heads, need, haves, chunks, and the flags section where there is one.
use Rattle.std.specs.Prelude.{ℕ, ◌+◌, List, [], ◌∷◌, ◌++◌, length, Option}
use Rattle.bloom.specs.Filter.{filter_bytes}
use Rattle.bloom.specs.Have.{Have}
use Rattle.wire.specs.Item.{prefixed_bytes, hash_list_bytes}
use Rattle.leb128.specs.Number.{shortest}
use Rattle.message.specs.Flags.{section_bytes}
use Rattle.message.specs.declared.version.MessageVersion.{MessageVersion}
use Rattle.message.specs.declared.version.MessageVersion.TheVariants.{V1, V2}
use Rattle.message.specs.declared.flags.MessageFlags.{MessageFlags}

-- A message: version, heads, need, haves, chunks and the flags section.
pub record Message : Type 0 where
  pub version : MessageVersion
  pub heads : List ℕ
  pub need : List ℕ
  pub haves : List Have
  -- each as its bytes
  pub chunks : List (List ℕ)
  pub flags : Option MessageFlags

-- The first byte.
abbrev pub type_of : MessageVersion → ℕ
type_of V1 = 0x42
type_of V2 = 0x43

-- Items one after the other.
unfoldable pub joined : {A : Type 0} → (A → List ℕ) → List A → List ℕ
joined bytes [] = []
joined bytes (x ∷ xs) = bytes x ++ joined bytes xs

-- The number of the items, then the items one after the other.
unfoldable pub counted : {A : Type 0} → (A → List ℕ) → List A → List ℕ
counted bytes xs = shortest (length xs) ++ joined bytes xs

-- The sum of numbers.
unfoldable pub total : List ℕ → ℕ
total [] = 0
total (n ∷ ns) = n + total ns

-- A have: a hash list and a prefixed filter.
unfoldable pub have_bytes : Have → List ℕ
have_bytes h = hash_list_bytes h.last_sync ++ prefixed_bytes (filter_bytes h.filter)

-- A message: the first byte, heads, need, haves, chunks, and the flags section where there is one.
unfoldable pub message_bytes : Message → List ℕ
message_bytes m =
    type_of m.version
    ∷ (hash_list_bytes m.heads
    ++ (hash_list_bytes m.need
    ++ (counted have_bytes m.haves ++ (counted prefixed_bytes m.chunks ++ section_bytes m.flags))))
