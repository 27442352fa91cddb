-- Messages that can be written, and which of them reading gives back. 01, Sizes, and the last rule of Wire: each filter has an entry or is the default,
-- and flags leave bit 80 alone.
use Rattle.std.specs.Prelude.{ℕ, ◌≤◌, ◌<◌, true, List, [], ◌∷◌, ◌≡◌, length, Option, Some, None}
use Rattle.bloom.specs.Filter.{Filter, filter_of4, filter_rules, default_bits, default_probes}
use Rattle.bloom.specs.Have.{Have}
use Rattle.rules.specs.Hash.{AreHashes}
use Rattle.rules.specs.Sizes.{sizes}
use Rattle.message.specs.Message.{Message, message_bytes}
use Rattle.message.specs.declared.flags.MessageFlags.{MessageFlags}

-- Each element has a property.
unfoldable pub Each : {A : Type 0} → (A → Type 0) → List A → Type 0
Each P [] = Unit {0}
Each P (x ∷ xs) = P x × Each P xs

-- 01, Sizes: hashes that a list may hold.
pub record SoundHashes (hs : List ℕ) : Type 0 where
  pub few : length hs ≤ sizes.hashes
  pub are : AreHashes hs

-- A have of such hashes and of a filter that keeps the filter rules.
pub record SoundHave (h : Have) : Type 0 where
  pub last_sync : SoundHashes h.last_sync
  pub filter : filter_rules h.filter.entries h.filter.bits h.filter.probes (length h.filter.field) ≡ true

-- A message that keeps every size and rule, as any message that is written does.
pub record SoundMessage (m : Message) : Type 0 where
  pub heads : SoundHashes m.heads
  pub need : SoundHashes m.need
  pub few : length m.haves ≤ sizes.haves
  pub haves : Each SoundHave m.haves
  pub chunks : length m.chunks ≤ sizes.chunks
  pub size : length (message_bytes m) ≤ sizes.message

-- The first condition of reading back: n is at least 1, or the filter is the default. Another filter with n = 0 is written as no bytes too, and
-- these say the default.
pub data FilterReadsBack (f : Filter) : Type 0 where
  entries : 0 < f.entries → FilterReadsBack f
  default : f ≡ filter_of4 0 default_bits default_probes [] → FilterReadsBack f

-- A have whose filter is read back as it was written.
abbrev pub HaveReadsBack : Have → Type 0
HaveReadsBack h = FilterReadsBack h.filter

-- The second: flags below 80, if there are any. A byte of flags has seven bits for them.
abbrev pub FlagsReadBack : Option MessageFlags → Type 0
FlagsReadBack None = Unit {0}
FlagsReadBack (Some f) = f.0 < 0x80

-- Both conditions of reading back, of a whole message.
pub record ReadsBack (m : Message) : Type 0 where
  pub filters : Each HaveReadsBack m.haves
  pub flags : FlagsReadBack m.flags
