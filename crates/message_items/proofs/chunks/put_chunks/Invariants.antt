-- `message_items::chunks::put_chunks` meets its contract: the words that were put and those of the items still to come make the list that all the words make.
-- The items were read before, so none of them is refused. Assumes nothing.
use Rattle.message_items.specs.Items.{chunk_item, chunk_words}
use Rattle.message_items.proofs.ItemLaws.{Putting}
use Rattle.message_items.proofs.chunks.put_chunks.Given as goal

abbrev pub invariant-loop-k : goal.invariant-loop-k
invariant-loop-k l = Putting (chunk_item l.bytes) chunk_words l.initial.out l.count l.start l.out l.next l.k
