-- `sample_replay::little_endian::words_at` meets its contract: the four words that the calls ensure. Assumes nothing.
use Rattle.sample_replay.specs.SampleWords.{words_at}
use Rattle.sample_replay.proofs.little_endian.words_at.Goals as goal

pub returns : goal.returns
unfolding words_at
returns c = cc
