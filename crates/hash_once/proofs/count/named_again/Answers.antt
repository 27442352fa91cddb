-- `hash_once::count::named_again` meets its contract: where there is a next entry, it is compared (JoinLaws). Assumes nothing.
use Rattle.hash_once.proofs.JoinLaws.{again_next, again_last}
use Rattle.hash_once.proofs.count.named_again.Goals as goal

pub returns-then-k-count : goal.returns-then-k-count
returns-then-k-count c = again_next _ _ _ _ _ c.if-k-count.true c.same_next.ensures

pub returns : goal.returns
returns c = again_last _ _ _ _ c.if-k-count.false
