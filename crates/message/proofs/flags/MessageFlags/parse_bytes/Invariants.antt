-- `message::flags::MessageFlags::parse_bytes` meets its contract: the flags so far and the bytes still to come say what all the bytes say. Assumes
-- nothing.
use mathlib.Core.Path.{◌≡◌}
use lib.ListN.{drop}
use Rattle.message.specs.Flags.{add_flags, flags_in}
use Rattle.message.proofs.flags.MessageFlags.parse_bytes.Given as goal

abbrev pub invariant-loop-byte : goal.invariant-loop-byte
invariant-loop-byte l = add_flags l.flags.0 (drop l.byte-index l.byte-items) ≡ flags_in l.byte-items
