-- `send_records::laid::nothing_laid` meets its contract: it is the definition. Assumes nothing.
use mathlib.Core.Path.{refl}
use Rattle.send_records.specs.Internal.RecordsLaid.{nothing_laid}
use Rattle.send_records.proofs.laid.nothing_laid.Goals as goal

pub returns : goal.returns
unfolding nothing_laid
returns c = refl
