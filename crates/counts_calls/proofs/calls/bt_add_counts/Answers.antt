-- `counts_calls::calls::bt_add_counts` meets its contract: the words of what adding ensures, and the totals behind it. Assumes nothing.
use Rattle.counts_calls.proofs.AddedLaws.{counts_added}
use Rattle.counts_calls.proofs.calls.bt_add_counts.Goals as goal

pub returns : goal.returns
returns c =
    counts_added _ _ _ _ _ _ c.totals_of.ensures c.add_counts-added.ensures c.totals_after.ensures c.added_words.ensures
