-- `counts::count::test_outside` meets its contract: the marks are those of held rows, and the words are those of the filter alone. Assumes nothing.
use native.Mathlib.Omega.{arith}
use Rattle.table.specs.Table.{held}
use Rattle.table.specs.TableBytes.{rows_at}
use Rattle.counts.proofs.CountLaws.{words_good, tested_rows}
use Rattle.counts.proofs.count.test_outside.Goals as goal

pub test_rows-requires : goal.test_rows-requires
test_rows-requires c =
    (words_good _ _ c.requires.2, c.requires.1.rows.inside, c.requires.1.rows.few, omega (arith, c.requires.1.rows.few))

pub returns : goal.returns
returns c =
    tested_rows (held (rows_at c.args.sender.now 0 c.args.m)) _ _ _ _ _ _ c.mark_held.ensures c.test_rows.ensures
