-- `leb128::leb128::leb128_u64` meets its contract: the part read ends where the part named ends in fact. Assumes nothing.
use mathlib.Core.Path.{◌∙◌}
use Rattle.leb128.proofs.Number.{number_within}
use Rattle.leb128.proofs.leb128.leb128_u64.Goals as goal

pub returns : goal.returns
returns c = c.read.ensures ∙ number_within _ _ _ _ _ c.within.ensures
