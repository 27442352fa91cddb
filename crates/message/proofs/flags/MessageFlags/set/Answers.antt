-- `message::flags::MessageFlags::set` meets its contract: the bits of both, as they stand. Assumes nothing.
use mathlib.Core.Path.{refl}
use Rattle.message.proofs.flags.MessageFlags.set.Goals as goal

pub returns : goal.returns
returns c = refl
