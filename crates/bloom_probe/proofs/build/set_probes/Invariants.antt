-- `bloom_probe::build::set_probes` meets its contract: setting the bits of the probes that are left, in the field as it is, gives what setting all of
-- them in the field as it was gives. Assumes nothing.
use Prim.Native.Nat.{◌-◌, ◌*◌, ◌≤◌, ◌<◌}
use mathlib.Core.Path.{◌≡◌}
use lib.ListN.{length}
use Rattle.rules.specs.Sizes.{sizes}
use Rattle.bloom_probe.specs.Build.{set_bits}
use Rattle.bloom_probe.specs.Probes.{probes_from}
use Rattle.bloom_probe.proofs.build.set_probes.Given as goal

abbrev pub invariant-loop : goal.invariant-loop
invariant-loop l =
    record {
      long : length l.field ≡ length l.initial.field;
      first : l.probe.x < l.m;
      second : l.probe.y < l.m;
      third : l.z < l.m;
      most : l.m ≤ 8 * sizes.field;
      rest : set_bits l.field (probes_from (l.rounds - l.counter) l.m l.probe.x l.probe.y l.z) ≡ set_bits l.initial.field (probes_from l.rounds l.m l.initial.probe.x l.initial.probe.y l.z);
    }
