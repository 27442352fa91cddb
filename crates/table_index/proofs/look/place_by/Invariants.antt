-- `table_index::look::place_by` meets its contract: the place lies between low and high, and the entry in the middle tells on which side (HalveLaws).
-- Assumes nothing.
use Prim.Native.Nat.{◌-◌, ◌≤◌}
use mathlib.Core.List.{map}
use Rattle.hash_order.specs.Order.{place_of}
use Rattle.rules.specs.Hash.{hash_at}
use Rattle.table.specs.TableBytes.{u16s_at}
use Rattle.table_index.specs.Index.{record_hash}
use Rattle.table_index.proofs.look.place_by.Given as goal

abbrev pub invariant-loop-low : goal.invariant-loop-low
invariant-loop-low l =
    record {
      least : l.low ≤ place_of (hash_at l.bytes l.at) (map (record_hash l.records l.size) (u16s_at l.index 0 l.n));
      most : place_of (hash_at l.bytes l.at) (map (record_hash l.records l.size) (u16s_at l.index 0 l.n)) ≤ l.high;
      upto : l.high ≤ l.n;
    }

abbrev pub decreases-loop-low : goal.decreases-loop-low
decreases-loop-low l = l.high - l.low
