-- `bloom_probe::probes::Probe::next` meets its contract: both steps return their remainders, x by the y before it. Assumes nothing.
use Rattle.bloom_probe.proofs.probes.Probe.next.Goals as goal

pub returns : goal.returns
returns c = rw (c.step-x.ensures.0, c.step-y.ensures.0)
