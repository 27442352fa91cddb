-- `leb128::leb128::write_unsigned` meets its contract: the room is tested against the size before anything is put. Assumes nothing.
use Rattle.rules.proofs.Outputs.{written_bytes, no_room}
use Rattle.leb128.proofs.leb128.write_unsigned.Goals as goal

pub returns-then-out-size : goal.returns-then-out-size
returns-then-out-size c = no_room _ _ _ c.unsigned_size-size.ensures c.if-out-size.true

pub returns : goal.returns
returns c =
    written_bytes _ _ _ _ c.unsigned_size-size.ensures c.if-out-size.false c.put_unsigned.ensures.content
