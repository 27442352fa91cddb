-- `rules::little_endian::u32_at` meets its contract: the four calls return the four bytes of the definition, and the sums fit since each is below 256.
-- Assumes nothing.
use borrow.Author.Rules.{rules}
use Rattle.rules.specs.LittleEndian.{u32_at}
use Rattle.rules.proofs.little_endian.u32_at.Goals as goal

pub returns : goal.returns
unfolding u32_at
returns c = search rules
