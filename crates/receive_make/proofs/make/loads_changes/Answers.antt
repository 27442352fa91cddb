-- `receive_make::make::loads_changes` meets its contract. Assumes nothing.
use Rattle.receive_make.proofs.MakeLaws.{no_changes, some_changes}
use Rattle.receive_make.proofs.make.loads_changes.Goals as goal

pub returns-then-chunks-gt0 : goal.returns-then-chunks-gt0
returns-then-chunks-gt0 c = some_changes _ c.args.read_only c.if-chunks-gt0.true

pub returns-else-chunks-gt0 : goal.returns-else-chunks-gt0
returns-else-chunks-gt0 c = no_changes _ c.args.read_only c.if-chunks-gt0.false
