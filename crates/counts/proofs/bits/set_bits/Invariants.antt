-- `counts::bits::set_bits` meets its contract: the bits counted and the ones of the bytes that are left are the set bits of all. Assumes nothing.
use Prim.Native.Nat.{◌+◌, ◌*◌}
use mathlib.Core.Path.{◌≡◌}
use lib.ListN.{length}
use lib.Seq.{slice}
use Rattle.hash_order.specs.Internal.Word.{word_size}
use Rattle.counts.specs.Captures.{bits_set}
use Rattle.counts.proofs.BitLaws.{byte_ones}
use Rattle.counts.proofs.bits.set_bits.Given as goal

abbrev pub invariant-loop-i : goal.invariant-loop-i
invariant-loop-i l = l.set + byte_ones (slice (l.i * word_size) (length l.field) l.field) ≡ bits_set l.field
