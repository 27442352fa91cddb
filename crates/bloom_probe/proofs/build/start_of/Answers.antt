-- `bloom_probe::build::start_of` meets its contract: each word is the one that the definition reads. Assumes nothing.
use Rattle.bloom_probe.proofs.build.start_of.Goals as goal

pub returns : goal.returns
returns c = rw (c.u32_at.ensures, c.u32_at-2.ensures, c.u32_at-3.ensures)
