-- `hash_order::word::word_at` meets its contract: a word is its first half times what a half holds, and its second half (Words). Assumes nothing.
use Rattle.hash_order.proofs.Words.{word_halves}
use Rattle.hash_order.proofs.word.word_at.Goals as goal

pub returns : goal.returns
returns c = word_halves _ _ c.requires _ _ c.half_at.ensures.0 c.half_at-2.ensures.0
