-- `bloom_probe::build::fill` meets its contract: the field that hashes are added to is the cleared one. Assumes nothing.
use Rattle.bloom_probe.proofs.StartLaws.{added_to_lem}
use Rattle.bloom_probe.proofs.build.fill.Goals as goal

pub returns : goal.returns
returns c = added_to_lem _ _ _ _ _ c.add_hashes.ensures c.clear.ensures
