-- `bloom_probe::contains::contains_hash` meets its contract: the filters from record i on decide what all of them do, and in a filter the probes
-- behind one that isn't clear decide what all of them do (Search). A good filter's field isn't empty and stands inside the lent bytes, so each probe does.
-- Assumes nothing.
use Prim.Native.Nat.{◌+◌, ◌-◌, ◌%◌, ◌<◌}
use mathlib.Core.Path.{◌≡◌}
use Rattle.rules.specs.Hash.{hash_at}
use Rattle.bloom_probe.specs.Contains.{none_clear, any_contains}
use Rattle.bloom_probe.specs.Probes.{probes_from}
use Rattle.bloom.specs.Have.{filters_of}
use Rattle.bloom_probe.proofs.Search.{searching}
use Rattle.bloom_probe.proofs.contains.contains_hash.Given as goal

abbrev pub invariant-loop : goal.invariant-loop
invariant-loop l =
    record {
      xs : l.probe.x < l.m;
      ys : l.probe.y < l.m;
      rest :
          none_clear l.field (probes_from (l.rounds - l.counter) l.m ((l.probe.x + l.probe.y) % l.m) ((l.probe.y + l.z) % l.m) l.z)
          ≡ none_clear l.field (probes_from l.rounds l.m l.x l.y l.z);
    }

abbrev pub invariant-next_filter : goal.invariant-next_filter
invariant-next_filter l =
    searching l.bytes l.haves (hash_at l.hashes l.at) l.total l.i ≡ any_contains (filters_of l.bytes l.haves) (hash_at l.hashes l.at)
