-- `table_convert::convert::convert` meets its contract: the check's refusal, or what becomes of a good table. Assumes nothing.
use mathlib.Core.Path.{sym}
use Rattle.rules.proofs.Outputs.{refused}
use Rattle.table_convert.proofs.ConvertLaws.{convert_refused, convert_goes}
use Rattle.rules.proofs.Cases.{handed_on}
use Rattle.table_convert.proofs.convert.convert.Goals as goal

pub convert_good-requires : goal.convert_good-requires
convert_good-requires c =
    (c.requires.1, sym c.in_ok-n.ensures)

pub returns-in_err-n : goal.returns-in_err-n
returns-in_err-n c = rw (handed_on c.from_residual.ensures.1, convert_refused _ _ _ _ (sym c.in_err-n.ensures)) (refused _ _)

pub returns : goal.returns
returns c =
    rw (convert_goes _ _ _ _ (sym c.in_ok-n.ensures)) c.convert_good.ensures
