-- `salvage::salvage::write_salvaged` meets its contract: both tests of room come before anything is put (AnswerLaws). Assumes nothing.
use Rattle.salvage.proofs.AnswerLaws.{kept_most, kept_fits, words_fit, called_rows, called_report, called_done}
use Rattle.salvage.proofs.salvage.write_salvaged.Goals as goal

pub row_place-size-requires : goal.row_place-size-requires
row_place-size-requires c =
    kept_fits _ _ _ _ _ _ c.requires.0 c.requires.2 c.requires.3

pub returns-then-rows-size : goal.returns-then-rows-size
returns-then-rows-size c =
    called_rows _ _ _ _ _ _ c.requires.0 _ _ _ _ c.requires.1 c.requires.4 c.row_place-size.ensures c.if-rows-size.true

pub overflow_sub-entries : goal.overflow_sub-entries
overflow_sub-entries c =
    kept_most _ _ _ _ _ _ c.requires.0

pub returns-then-report-entries : goal.returns-then-report-entries
returns-then-report-entries c =
    called_report _ _ _ _ _ _ c.requires.0 _ _ _ _ c.requires.1 c.requires.4 c.row_place-size.ensures c.if-rows-size.false c.if-report-entries.true

pub put_report-requires : goal.put_report-requires
put_report-requires c =
    (c.requires.0.rules_long, words_fit _ _ _ _ _ _ c.requires.0 _ c.requires.1 c.if-report-entries.false)

pub returns : goal.returns
returns c =
    called_done _ _ _ _ _ _ c.requires.0 _ _ _ _ c.requires.1 c.requires.4 c.row_place-size.ensures c.if-rows-size.false _ _ _ c.if-report-entries.false c.put_rows.ensures c.put_report.ensures
    c.row_size.ensures
