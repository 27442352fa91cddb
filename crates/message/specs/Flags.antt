-- Flags. 01, Wire, Flags: a byte below 80 hexadecimal says nothing, any other sets its low seven bits; a section that says nothing is still a section. It
-- is written as its length 02, then 02, which older peers read as version 2, and the flags with bit 80 set.
use Rattle.std.specs.Prelude.{ℕ, ◌+◌, ◌-◌, ◌%◌, Bool, cond, not, List, [], ◌∷◌, ltb, eqb, Option, Some, None}
use Rattle.std.specs.Int.Bits.{bit_or, bit_and}
use Rattle.message.specs.declared.flags.MessageFlags.{MessageFlags}

-- 01, Wire, Flags: three bits have a meaning. The receiver is to forget what it sent.
abbrev pub sync_reset : ℕ
sync_reset = 1

-- The sender takes no changes.
abbrev pub read_only_flag : ℕ
read_only_flag = 2

-- The sender understands a reset.
abbrev pub supports_sync_reset : ℕ
supports_sync_reset = 4

-- Flags by their number.
abbrev pub flags_of : ℕ → MessageFlags
flags_of f = record { 0 = f }

-- Flags have a flag if some bit is in common with it.
abbrev pub has_flag : MessageFlags → ℕ → Bool
has_flag m flag = not (eqb (bit_and m.0 flag) 0)

-- What the bytes of a section say: "adds" is or, so a bit that is said twice is set.
unfoldable pub add_flags : ℕ → List ℕ → ℕ
add_flags f [] = f
add_flags f (b ∷ bs) = cond (ltb b 0x80) (add_flags f bs) (add_flags (bit_or f (b - 0x80)) bs)

-- The flags that a section's bytes say.
unfoldable pub flags_in : List ℕ → ℕ
flags_in bs = add_flags 0 bs

-- A section as bytes. 80 + f is or as well: the byte has bit 80 whatever f is.
unfoldable pub section_bytes : Option MessageFlags → List ℕ
section_bytes None = []
section_bytes (Some f) = 0x02 ∷ 0x02 ∷ (0x80 + f.0 % 0x80) ∷ []
