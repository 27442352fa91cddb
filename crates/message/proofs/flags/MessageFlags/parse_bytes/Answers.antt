-- `message::flags::MessageFlags::parse_bytes` meets its contract: the flags so far and the bytes still to come say what all the bytes say. Assumes
-- nothing.
use Prim.Native.Nat.{ℕ}
use mathlib.Core.List.{List}
use mathlib.Core.Path.{◌≡◌, sym, ap, ◌∙◌}
use Rattle.message.specs.Flags.{add_flags, flags_in, flags_of}
use Rattle.message.proofs.FlagLaws.{part_lent, flags_end, flags_ignored, flags_added, same_flags}
use Rattle.message.specs.declared.flags.MessageFlags.{MessageFlags}
use Rattle.message.proofs.flags.MessageFlags.parse_bytes.Goals as goal
use Rattle.message.proofs.flags.MessageFlags.parse_bytes.Goals.{then-byte-ge-BITFIELD_MARKER, else-byte-ge-BITFIELD_MARKER}

-- no flag, and all the bytes still to come
starts : (l : List ℕ) (m : MessageFlags) → m ≡ flags_of 0 → add_flags m.0 l ≡ flags_in l
unfolding flags_in
starts l m e = rw e

pub loop-byte-init : goal.loop-byte-init
loop-byte-init c = starts _ _ c.new-flags.ensures

pub loop-byte-preserved : goal.loop-byte-preserved
loop-byte-preserved c =
    elim c.if-byte-ge-BITFIELD_MARKER.branch [
      | then-byte-ge-BITFIELD_MARKER w ↦
          sym (flags_added _ _ _ c.loop-byte-test.true _ w.if-byte-ge-BITFIELD_MARKER.true (w.flags-is ∙ w.set-flags.ensures)) ∙ c.loop-byte.invariant
      | else-byte-ge-BITFIELD_MARKER w ↦
          rw w.flags-is (sym (flags_ignored _ _ _ c.loop-byte-test.true w.if-byte-ge-BITFIELD_MARKER.false) ∙ c.loop-byte.invariant)
    ]

pub returns : goal.returns
returns c =
    same_flags _ _
    (sym (flags_end _ _ _ c.loop-byte-test.false)
    ∙ c.loop-byte.invariant
    ∙ ap flags_in (part_lent c.args.bytes.now _ _ c.requires.0))
