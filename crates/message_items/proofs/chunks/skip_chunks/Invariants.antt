-- `message_items::chunks::skip_chunks` meets its contract: the items still to come, from the place reached, say what all of them say. Assumes nothing.
use Prim.Native.Nat.{◌-◌}
use mathlib.Core.Path.{◌≡◌}
use Rattle.wire.specs.Item.{run}
use Rattle.message_items.specs.Items.{chunk_item, many_at, list_from, listed_of}
use Rattle.message_items.proofs.ItemLaws.{passing}
use Rattle.message_items.proofs.chunks.skip_chunks.Given as goal

abbrev pub invariant-loop : goal.invariant-loop
invariant-loop l =
    passing (chunk_item l.bytes) l.start l.count (l.count - l.counter) l.next ≡ listed_of (list_from (run l.start l.count) (many_at (chunk_item l.bytes) l.count l.start))
