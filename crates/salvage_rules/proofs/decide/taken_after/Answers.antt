-- `salvage_rules::decide::taken_after` meets its contract: a case for each way to end. Assumes nothing.
use borrow.Author.Tests.{eq-eqb, ne_eqb}
use Rattle.salvage_rules.proofs.decide.taken_after.Goals as goal

pub returns-then-rule-eq0 : goal.returns-then-rule-eq0
returns-then-rule-eq0 c = rw (eq-eqb c.args.rule 0 c.if-rule-eq0.true)

pub returns : goal.returns
returns c = rw (ne_eqb c.args.rule 0 c.if-rule-eq0.false)
