-- `receive_haves::haves::lay_haves` meets its contract: what has been laid out and what is left make the whole (HaveLaws). Assumes nothing.
use Rattle.receive_haves.proofs.HaveLaws.{laying_starts, record-room, have_room_lem, laying_on, laying_ends}
use Rattle.receive_haves.proofs.haves.lay_haves.Goals as goal

pub loop-i-init : goal.loop-i-init
loop-i-init c = laying_starts _ _ _ _

pub put_record-requires : goal.put_record-requires
put_record-requires c =
    let r = record-room _ _ c.requires.0 _ _ _ _ _ _ c.loop-i.invariant c.loop-i-test.true c.requires.1 in
    (c.loop-i-test.true, r.0, r.1)

pub lay_have-at-requires : goal.lay_have-at-requires
lay_have-at-requires c = (
  c.requires.0,
  c.loop-i-test.true,
  have_room_lem _ _ c.requires.0 _ _ _ _ _ _ c.loop-i.invariant c.loop-i-test.true c.requires.2,
)

pub loop-i-preserved : goal.loop-i-preserved
loop-i-preserved c =
    laying_on _ _ c.requires.0 _ _ _ _ _ _ c.loop-i.invariant c.loop-i-test.true _ _ _ c.put_record.ensures c.put_record.auto.records
    c.lay_have-at.auto.bytes
    c.lay_have-at.ensures

pub returns : goal.returns
returns c = laying_ends _ _ _ _ _ _ _ _ c.loop-i.invariant c.loop-i-test.false
