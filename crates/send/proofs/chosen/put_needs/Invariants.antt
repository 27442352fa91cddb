-- `send::chosen::put_needs` meets its contract: putting the hashes that are left behind those that were put gives the buffer that putting
-- all of them gives, and they end after as many as are counted. Assumes nothing.
use Prim.Native.Nat.{◌+◌, ◌*◌, ◌≤◌}
use mathlib.Core.Path.{◌≡◌}
use lib.ListN.{length}
use lib.Seq.{sets}
use Rattle.rules.specs.Hash.{hashes_at, hashes_bytes}
use Rattle.rules.specs.Sizes.{sizes}
use Rattle.table_graph.specs.Internal.Marks.{marked, picked}
use Rattle.table_graph.proofs.PickLaws.{pick_left}
use Rattle.send.proofs.chosen.put_needs.Given as goal

abbrev pub invariant-loop-k : goal.invariant-loop-k
invariant-loop-k l =
    record {
      ends : l.at ≡ sizes.hash * marked l.k l.needs;
      room : l.at + sizes.hash * length (pick_left (hashes_at l.need l.place l.count) l.needs l.k) ≤ length l.initial.out;
      rest :
          sets l.out l.at (hashes_bytes (pick_left (hashes_at l.need l.place l.count) l.needs l.k))
          ≡ sets l.initial.out 0 (hashes_bytes (picked (hashes_at l.need l.place l.count) l.needs));
    }
