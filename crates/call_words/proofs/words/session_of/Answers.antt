-- `call_words::words::session_of` meets its contract: word for word. Assumes nothing.
use Rattle.call_words.proofs.words.session_of.Goals as goal

pub returns : goal.returns
returns c = rw (c.heard_of-have.ensures, c.heard_of-need.ensures, c.heard_of-heads.ensures)
