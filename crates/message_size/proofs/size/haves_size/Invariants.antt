-- `message_size::size::haves_size` meets its contract: what is counted and the haves from record i on are together all of them. Assumes nothing.
use Prim.Native.Nat.{◌+◌, ◌*◌, ◌≤◌}
use mathlib.Core.Path.{◌≡◌}
use lib.ListN.{length}
use Rattle.bloom.specs.Have.{haves_of}
use Rattle.message.specs.Message.{counted, have_bytes}
use Rattle.message_size.proofs.SizeLaws.{most_have_lem, haves_size}
use Rattle.message_size.proofs.size.haves_size.Given as goal

abbrev pub invariant-loop-i : goal.invariant-loop-i
invariant-loop-i l =
    record {
      small : l.size ≤ 10 + most_have_lem * l.i;
      rest : l.size + haves_size l.bytes l.haves l.total l.i ≡ length (counted have_bytes (haves_of l.bytes l.haves));
    }
