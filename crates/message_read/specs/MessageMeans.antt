-- What the bytes of a message mean. 01, Wire, Message: its parts stand one after the other, each from the place where the one before it ended; bytes
-- behind a flags section say nothing. What `message_at` reads means the message that it says: the law `message-means`. The other way round it reads
-- what is written of a message: `message-there-and-back`.
use Rattle.std.specs.Prelude.{ℕ, ◌≤◌, List, [], ◌∷◌, ◌++◌, ◌≡◌, length, Option, Some, None}
use Rattle.message_items.specs.ItemMeans.{HavesMean}
use Rattle.message.specs.Flags.{flags_of, flags_in}
use Rattle.message.specs.Message.{Message, type_of, counted}
use Rattle.rules.specs.Sizes.{sizes}
use Rattle.wire.specs.Item.{prefixed_bytes, hash_list_bytes}
use Rattle.leb128.specs.Number.{shortest}
use Rattle.message.specs.declared.flags.MessageFlags.{MessageFlags}

-- The bytes after the chunks: no section where there are none, else a section, and what is ignored.
pub data SectionMeans (bytes : List ℕ) : Option MessageFlags → Type 0 where
  none : bytes ≡ [] → SectionMeans bytes None
  some : (section ignored : List ℕ) → bytes ≡ prefixed_bytes section ++ ignored → SectionMeans bytes (Some (flags_of (flags_in section)))

-- The bytes s mean the message m. Numbers stand in their shortest form, so all but two things in s follow from m: the strings of the filters, which
-- may say more than they need, and what comes after the chunks.
pub record MessageMeans (s : List ℕ) (m : Message) : Type 0 where
  pub haves_bytes : List ℕ
  pub section_bytes : List ℕ
  pub is : s
      ≡ type_of m.version
      ∷ (hash_list_bytes m.heads
      ++ (hash_list_bytes m.need
      ++ ((shortest (length m.haves) ++ haves_bytes) ++ (counted prefixed_bytes m.chunks ++ section_bytes))))
  pub haves : HavesMean haves_bytes m.haves
  pub flags : SectionMeans section_bytes m.flags
  -- 01, Sizes
  pub small : length s ≤ sizes.message
  pub few_heads : length m.heads ≤ sizes.hashes
  pub few_need : length m.need ≤ sizes.hashes
  pub few_haves : length m.haves ≤ sizes.haves
  pub few_chunks : length m.chunks ≤ sizes.chunks
