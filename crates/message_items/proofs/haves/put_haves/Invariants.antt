-- `message_items::haves::put_haves` meets its contract: the words that were put and those of the items still to come make the list that all the words make.
-- The items were read before, so none of them is refused. Assumes nothing.
use Rattle.bloom.specs.Have.{have_words}
use Rattle.message_items.specs.Items.{have_item}
use Rattle.message_items.proofs.ItemLaws.{Putting}
use Rattle.message_items.proofs.haves.put_haves.Given as goal

abbrev pub invariant-loop-k : goal.invariant-loop-k
invariant-loop-k l = Putting (have_item l.bytes) have_words l.initial.out l.count l.start l.out l.next l.k
