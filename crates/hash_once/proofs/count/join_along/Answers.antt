-- `hash_once::count::join_along` meets its contract: what is counted, and what the entries from k on add, are together all of them (JoinLaws). Assumes
-- nothing.
use Prim.Native.Nat.{◌≤◌}
use native.Mathlib.Omega.{arith}
use Rattle.rules.proofs.Hash.{length_hashes_at}
use Rattle.hash_once.proofs.JoinLaws.{added_most, joining_on, joining_starts, joining_ends}
use Rattle.hash_once.proofs.count.join_along.Goals as goal

pub loop-k-init : goal.loop-k-init
loop-k-init c =
    record {
      most = omega arith;
      rest = joining_starts _ _ _ c.requires.0 _ _ (length_hashes_at _ _ _) c.requires.4;
    }

pub overflow_add-joined : goal.overflow_add-joined
overflow_add-joined c =
    omega (arith, (let it : c.added_by-joined.result ≤ 1 = added_most _ _ _ _ _ _ c.added_by-joined.ensures in it), c.loop-k.invariant.most, c.loop-k-test.true, c.requires.1, c.requires.3)

pub loop-k-preserved : goal.loop-k-preserved
loop-k-preserved c =
    record {
      most = omega (arith, (let it : c.added_by-joined.result ≤ 1 = added_most _ _ _ _ _ _ c.added_by-joined.ensures in it), c.loop-k.invariant.most);
      rest = joining_on _ _ _ _ _ _ _ _ c.loop-k-test.true c.added_by-joined.ensures c.loop-k.invariant.rest;
    }

pub returns : goal.returns
returns c =
    joining_ends _ _ _ c.requires.0 _ _ _ _ c.loop-k-test.false c.loop-k.invariant.rest
