-- `receive_haves::haves::lay_haves` meets its contract: what has been laid out and what is left make the whole (HaveLaws). Assumes nothing.
use Rattle.receive_haves.proofs.HaveLaws.{Laying}
use Rattle.receive_haves.proofs.haves.lay_haves.Given as goal

abbrev pub invariant-loop-i : goal.invariant-loop-i
invariant-loop-i l = Laying l.message l.words l.initial.records l.initial.bytes l.records l.bytes l.at l.i
