-- `send_records::summary::summary_in` meets its contract: one case of `summary_in` for each answer. Assumes nothing.
use borrow.Author.Tests.{le-leb, lt-leb}
use Rattle.send_records.specs.Summary.{summary_in}
use Rattle.send_records.proofs.summary.summary_in.Goals as goal

pub returns-then-words-i : goal.returns-then-words-i
unfolding summary_in
returns-then-words-i c = rw (le-leb _ _ c.if-words-i.true)

pub returns : goal.returns
unfolding summary_in
returns c =
    rw (lt-leb _ _ c.if-words-i.false)
