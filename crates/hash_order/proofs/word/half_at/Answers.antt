-- `hash_order::word::half_at` meets its contract: the four calls return the four bytes of the definition, and the sums fit since each is below 256. Assumes nothing.
use borrow.Author.Rules.{rules}
use Rattle.hash_order.specs.Internal.Word.{half_at}
use Rattle.hash_order.proofs.word.half_at.Goals as goal

pub returns : goal.returns
unfolding half_at
returns c = search rules
