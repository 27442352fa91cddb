-- `sample_replay::record::agreeing` meets its contract: all four words decide where the input was accepted, else the first. Assumes nothing.
use mathlib.Core.Path.{refl, ◌∙◌}
use Rattle.std.proofs.Common.{rules}
use Rattle.sample_replay.proofs.Records.{refusals_agree, accepted_agree}
use Rattle.sample_replay.proofs.record.agreeing.Goals as goal

pub returns-then-stored-eq0 : goal.returns-then-stored-eq0
returns-then-stored-eq0 c =
    c.eq.ensures ∙ accepted_agree c.args.stored _ c.args.found (search rules) (search rules) c.if-stored-eq0.true refl refl refl refl

pub returns-else-stored-eq0 : goal.returns-else-stored-eq0
returns-else-stored-eq0 c = refusals_agree c.args.stored c.args.found c.if-stored-eq0.false
