-- `counts::held::place_from` meets its contract: as many as were passed are before the hash, and the first that isn't is at its place. Assumes nothing.
use Prim.Native.Nat.{◌≤◌}
use Rattle.hash_order.specs.Order.{place_of}
use Rattle.rules.specs.Hash.{hash_at}
use Rattle.counts.specs.Internal.Walked.{hashes_along}
use Rattle.counts.proofs.held.place_from.Given as goal

abbrev pub invariant-loop-k : goal.invariant-loop-k
invariant-loop-k l = l.k ≤ place_of (hash_at l.bytes l.at) (hashes_along l.table l.index l.n)
