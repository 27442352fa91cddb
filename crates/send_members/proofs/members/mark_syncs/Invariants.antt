-- `send_members::members::mark_syncs` meets its contract: the marks that were, with the lists that are left, are the marks of all lists. Assumes
-- nothing.
use Prim.Native.Nat.{ℕ, ◌<◌}
use mathlib.Core.Bool.{false, ◌||◌}
use mathlib.Core.Path.{◌≡◌}
use lib.ListN.{get_or}
use Rattle.bloom.specs.Have.{haves_of}
use Rattle.hash_order.specs.Order.{member}
use Rattle.table.specs.TableBytes.{rows_at}
use Rattle.table.specs.Table.{hash_of}
use Rattle.send_members.specs.Internal.Members.{last_syncs}
use Rattle.send_members.proofs.MemberLaws.{syncs_from}
use Rattle.send_members.proofs.members.mark_syncs.Given as goal

abbrev pub invariant-loop-k : goal.invariant-loop-k
invariant-loop-k l =
    (i : ℕ) → i < l.n
    → (get_or l.marks i false || member (hash_of (rows_at l.table 0 l.n) i) (syncs_from l.bytes l.haves l.total l.k))
    ≡ member (hash_of (rows_at l.table 0 l.n) i) (last_syncs (haves_of l.bytes l.haves))
