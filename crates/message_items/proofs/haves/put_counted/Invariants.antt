-- `message_items::haves::put_counted` meets its contract: the words and the numbers that were put, and those of the items still to come, make the lists that
-- all of them make. The items were read before, so none of them is refused. Assumes nothing.
use Rattle.bloom.specs.Have.{have_words}
use Rattle.message_items.specs.Items.{have_item}
use Rattle.message_items.proofs.IgnoredLaws.{Counting}
use Rattle.message_items.proofs.ItemLaws.{Putting}
use Rattle.message_items.proofs.haves.put_counted.Given as goal

abbrev pub invariant-loop-k : goal.invariant-loop-k
invariant-loop-k l =
    record {
      put : Putting (have_item l.bytes) have_words l.initial.out l.count l.start l.out l.next l.k;
      counted : Counting l.bytes l.initial.ignored l.count l.start l.ignored l.sum l.next l.k;
    }
