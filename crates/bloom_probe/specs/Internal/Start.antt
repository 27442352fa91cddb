-- What internal contracts speak of: where the probes of a hash start. No rule of 01 stands here.
use Rattle.std.specs.Prelude.{ℕ, ◌+◌, ◌%◌, List}
use Rattle.rules.specs.LittleEndian.{u32_at}
use Rattle.bloom_probe.specs.declared.build.Start.{Start}

-- The start of the hash at a place, in a field of m bits.
abbrev pub start_at : List ℕ → ℕ → ℕ → Start
start_at s at m = record { x = u32_at s at % m; y = u32_at s (at + 4) % m; z = u32_at s (at + 8) % m }
