-- `message_write::put::put_haves` meets its contract: what is put and the haves from record i on are together all of them. Assumes nothing.
use Rattle.message_write.proofs.PutLaws.{Putting, haves_left}
use Rattle.message_write.proofs.put.put_haves.Given as goal

abbrev pub invariant-loop-i : goal.invariant-loop-i
invariant-loop-i l =
    Putting l.initial.out l.out l.initial.place l.place (haves_left l.bytes l.haves l.total 0) (haves_left l.bytes l.haves l.total l.i)
