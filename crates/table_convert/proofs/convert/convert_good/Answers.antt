-- `table_convert::convert::convert_good` meets its contract: one law of ConvertLaws for each answer. Assumes nothing.
use Rattle.rules.proofs.Outputs.{refused}
use Rattle.table_convert.proofs.ConvertLaws.{rows_inside, bytes_many, bytes_wide, bytes_fit, rows_fit, rows_size}
use Rattle.table_convert.proofs.convert.convert_good.Goals as goal

pub returns-then-to-n : goal.returns-then-to-n
returns-then-to-n c =
    rw (bytes_many _ c.args.to _ _ c.requires.1 c.if-to-n.true) (refused _ _)

pub first_wide-wide-requires : goal.first_wide-wide-requires
first_wide-wide-requires c = rows_inside _ _ _ c.requires.1

pub returns-then-wide-n : goal.returns-then-wide-n
returns-then-wide-n c =
    rw (bytes_wide _ _ _ _ c.requires.1 c.if-to-n.false _ c.first_wide-wide.ensures c.if-wide-n.true) (refused _ _)

pub write_rows-requires : goal.write_rows-requires
write_rows-requires c =
    (rows_fit _ _ _ _ c.requires.1 c.if-to-n.false _ c.first_wide-wide.ensures c.if-wide-n.false, rows_size _ _ _ _ c.requires.1 c.requires.0 c.if-to-n.false)

pub returns : goal.returns
returns c =
    rw (bytes_fit _ _ _ _ c.requires.1 c.if-to-n.false _ c.first_wide-wide.ensures c.if-wide-n.false) c.write_rows.ensures
