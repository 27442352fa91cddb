-- `table_convert::convert::write_rows` meets its contract: 7 goes first, before anything is put. Assumes nothing.
use Rattle.rules.proofs.Outputs.{written_bytes, no_room}
use Rattle.table_convert.proofs.PutLaws.{fit_long}
use Rattle.table_convert.proofs.convert.write_rows.Goals as goal

pub returns-then-out-size : goal.returns-then-out-size
returns-then-out-size c =
    no_room _ _ _ (fit_long _ _ _ _ _ c.requires.0 c.row_place-size.ensures) c.if-out-size.true

pub returns : goal.returns
returns c =
    written_bytes _ _ _ _ (fit_long _ _ _ _ _ c.requires.0 c.row_place-size.ensures) c.if-out-size.false c.put_rows.ensures
