-- `plan_put::field::fill_marked` meets its contract: the field that the marked rows are added to is the cleared one. Assumes nothing.
use Rattle.bloom_probe.proofs.StartLaws.{added_to_lem}
use Rattle.plan_put.proofs.field.fill_marked.Goals as goal

pub returns : goal.returns
returns c = added_to_lem _ _ _ _ _ c.add_marked.ensures c.clear.ensures
