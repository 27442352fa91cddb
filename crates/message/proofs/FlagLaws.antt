-- The flags of a section, byte by byte.
use Prim.Native.Nat.{ℕ, ◌+◌, ◌-◌, ◌≤◌, ◌<◌}
use mathlib.Core.List.{List}
use mathlib.Core.Path.{◌≡◌, ap, ◌∙◌}
use native.Mathlib.Omega.{arith}
use borrow.Author.Tests.{lt-ltb, le-ltb}
use lib.Bits.{bit_or}
use lib.ListN.{length, get_or, take, drop, drop_of_length-le}
use lib.Seq.{slice}
use Rattle.std.proofs.lemmas.List.{drop_more}
use Rattle.message.specs.Flags.{add_flags, flags_of}
use Rattle.message.specs.declared.flags.MessageFlags.{MessageFlags}
use Rattle.rules.proofs.Hash.{take_drop}

-- a part is lent as the first bytes behind its start
pub part_lent : (s : List ℕ) (start end : ℕ) → start ≤ end → take (end - start) (drop start s) ≡ slice start end s
part_lent s start end h =
    let e : start + (end - start) ≡ end = omega arith in
    take_drop (end - start) start s ∙ ap (λ (k : ℕ). drop start (take k s)) e

module _ (s : List ℕ) (f i : ℕ) where
  pub flags_end : length s ≤ i → add_flags f (drop i s) ≡ f
  unfolding add_flags
  flags_end h = rw (drop_of_length-le s h)

  module _ (here : i < length s) where
    pub flags_ignored : get_or s i 0 < 128 → add_flags f (drop i s) ≡ add_flags f (drop (i + 1) s)
    unfolding add_flags
    flags_ignored h = rw (drop_more s i 0 here, lt-ltb _ _ h)

    pub flags_added : (m : MessageFlags) → 128 ≤ get_or s i 0 → m ≡ flags_of (bit_or f (get_or s i 0 - 128))
        → add_flags f (drop i s) ≡ add_flags m.0 (drop (i + 1) s)
    unfolding add_flags
    flags_added m h e = rw (drop_more s i 0 here, le-ltb _ _ h, e)

-- flags by their number
pub same_flags : (m : MessageFlags) (f : ℕ) → m.0 ≡ f → m ≡ flags_of f
same_flags m f e = ap flags_of e
