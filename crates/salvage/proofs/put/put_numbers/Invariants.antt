-- `salvage::put::put_numbers` meets its contract: putting the numbers that are left at their place gives the buffer that putting all of them gives
-- (PutLaws). Assumes nothing.
use mathlib.Core.List.{map}
use mathlib.Core.Path.{◌≡◌}
use lib.ListN.{get_or}
use lib.Seq.{sets}
use Rattle.table.specs.TableBytes.{u16s_bytes, used_of}
use Rattle.salvage.proofs.PutLaws.{numbers_left}
use Rattle.salvage.proofs.put.put_numbers.Given as goal

abbrev pub invariant-loop-j : goal.invariant-loop-j
invariant-loop-j l =
    numbers_left l.d l.table l.i l.places l.at l.count l.out l.j ≡ sets l.initial.out l.at (u16s_bytes (map (λ k. get_or l.places k 0) (used_of l.d l.table l.i)))
