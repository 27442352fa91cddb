-- `sample_replay::little_endian::u64_at` meets its contract: two numbers of 32 bits. Assumes nothing.
use native.Mathlib.Omega.{arith}
use Rattle.sample_replay.specs.SampleWords.{u64_at}
use Rattle.sample_replay.proofs.little_endian.u64_at.Goals as goal

pub returns : goal.returns
unfolding u64_at
returns c = omega arith
