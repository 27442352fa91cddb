-- `waiting_missing::take::take_refs` meets its contract: before each turn the numbers below i are taken. Assumes nothing.
use Prim.Native.Nat.{◌-◌}
use Rattle.hash_refs.specs.Internal.Refs.{ref_hash}
use Rattle.table.specs.TableBytes.{rows_at}
use Rattle.table_index.specs.Index.{hashes_from}
use Rattle.waiting.specs.WaitingBytes.{waitings_at}
use Rattle.waiting_missing.specs.Internal.Take.{Took}
use Rattle.waiting_missing.specs.Missing.{unknown}
use Rattle.waiting_missing.proofs.take.take_refs.Given as goal

abbrev pub invariant-loop-i : goal.invariant-loop-i
invariant-loop-i l =
    Took l.list l.place l.entries l.waiting (unknown (rows_at l.table 0 l.n) (waitings_at l.waiting 0 l.m))
    (hashes_from (ref_hash l.list l.place l.entries l.waiting) l.first (l.i - l.first)) l.initial.refs l.count l.refs l.found
