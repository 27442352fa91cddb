-- Where the probes of a filter lie. 01, "Probes"; 02, M-105.
use Rattle.std.specs.Prelude.{ℕ, ◌*◌, ◌/◌, ◌<◌, true, ◌≡◌, length}
use Rattle.bloom.specs.Filter.{Filter}
use Rattle.hash_order.specs.Order.{member}
use Rattle.bloom_probe.specs.Probes.{probes_of}

-- Every probe of every hash is a bit of the filter's field.
abbrev pub Inside : Filter → Type 0
Inside f = (h k : ℕ) → member k (probes_of (8 * length f.field) f.probes h) ≡ true → k / 8 < length f.field
