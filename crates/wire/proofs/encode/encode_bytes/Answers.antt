-- `wire::encode::encode_bytes` meets its contract: a prefixed string is its length and its bytes. Assumes nothing.
use Rattle.wire.specs.Item.{prefixed_bytes}
use Rattle.wire.proofs.encode.encode_bytes.Goals as goal

pub returns : goal.returns
unfolding prefixed_bytes
returns c = c.encode.ensures
