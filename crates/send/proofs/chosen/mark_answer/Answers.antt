-- `send::chosen::mark_answer` meets its contract: a list shorter than one record has no have. Assumes nothing.
use Rattle.send.proofs.ChosenLaws.{none_answered, some_answered}
use Rattle.send.proofs.chosen.mark_answer.Goals as goal

pub returns-then-haves-lt-HAVE_WORDS : goal.returns-then-haves-lt-HAVE_WORDS
returns-then-haves-lt-HAVE_WORDS c = none_answered _ _ _ _ _ c.if-haves-lt-HAVE_WORDS.true c.requires.4

pub returns : goal.returns
returns c =
    some_answered _ _ _ _ _ c.if-haves-lt-HAVE_WORDS.false c.mark_s.ensures
