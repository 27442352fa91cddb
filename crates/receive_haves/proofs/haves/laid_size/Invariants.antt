-- `receive_haves::haves::laid_size` meets its contract: the sizes that are added and those still to come make the whole (HaveLaws). Assumes nothing.
use Prim.Native.Nat.{◌+◌}
use mathlib.Core.Path.{◌≡◌}
use lib.ListN.{length}
use Rattle.bloom.specs.Have.{haves_of}
use Rattle.session.specs.Laid.{laid_bytes}
use Rattle.receive_haves.proofs.HaveLaws.{left_from}
use Rattle.receive_haves.proofs.haves.laid_size.Given as goal

abbrev pub invariant-loop-i : goal.invariant-loop-i
invariant-loop-i l =
    l.size + length (laid_bytes (left_from l.message l.words l.i)) ≡ length (laid_bytes (haves_of l.message l.words))
