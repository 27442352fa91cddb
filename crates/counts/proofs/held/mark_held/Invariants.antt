-- `counts::held::mark_held` meets its contract: the rows that the passed entries name are marked (MarkedAlong), and each row is named. Assumes nothing.
use Prim.Native.Nat.{ℕ, ◌*◌, ◌≤◌, ◌<◌}
use Rattle.hash_order.specs.Order.{place_of}
use Rattle.rules.specs.Hash.{hash_at}
use Rattle.rules.specs.LittleEndian.{u16_at}
use Rattle.table.specs.Table.{held}
use Rattle.table.specs.TableBytes.{rows_at, row_size}
use Rattle.counts.specs.Internal.Walked.{hashes_along}
use Rattle.counts.proofs.WalkLaws.{MarkedAlong}
use Rattle.counts.proofs.held.mark_held.Given as goal

abbrev pub invariant-loop-i : goal.invariant-loop-i
invariant-loop-i l =
    record {
      from : (j : ℕ) → l.i ≤ j → j < l.n → l.k ≤ place_of (hash_at l.listener (u16_at l.index (2 * j) * row_size)) (hashes_along l.sender l.sender_index l.m);
      marked : MarkedAlong l.index l.i l.marks (λ r. held (rows_at l.sender 0 l.m) (hash_at l.listener (r * row_size)));
    }
