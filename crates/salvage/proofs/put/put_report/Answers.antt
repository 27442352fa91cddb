-- `salvage::put::put_report` meets its contract: the buffer has the entries of the rows that were passed (PutLaws). Assumes nothing.
use Rattle.salvage.proofs.PutLaws.{words_none, words_start, words_room_lem, words_more}
use Rattle.salvage.proofs.put.put_report.Goals as goal

pub loop-i-init : goal.loop-i-init
loop-i-init c = record { place = words_none _; done = words_start _ _ }

pub put_entry-at-requires : goal.put_entry-at-requires
put_entry-at-requires c =
    words_room_lem _ _ _ _ c.loop-i-test.true c.loop-i.invariant.place _ _ c.requires.1 c.loop-i.auto.report

pub loop-i-preserved : goal.loop-i-preserved
loop-i-preserved c =
    let more = words_more _ _ _ _ c.loop-i-test.true c.loop-i.invariant.place _ _ _ _ c.loop-i.invariant.done c.put_entry-at.ensures in
    record { place = more.0; done = more.1 }
