-- `call_words::words::session_words` meets its contract: word for word. Assumes nothing.
use Rattle.call_words.proofs.WordLaws.{words_made}
use Rattle.call_words.proofs.words.session_words.Goals as goal

pub returns : goal.returns
returns c =
    words_made c.args.session _ _ _ _ _ _ c.heard_present.ensures c.heard_count.ensures c.heard_present-2.ensures c.heard_count-2.ensures c.heard_present-3.ensures c.heard_count-3.ensures
