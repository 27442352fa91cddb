-- The contract that is proved of bt_fresh, which every talk begins with, held beside its one argument: a contract that is another call's, in its text and in the
-- code alike, is refused here. Assumes nothing.
use contract.Lifetimes.{Lfts}
use denote.Triple.Clauses.{AtExit}
use denote.Triple.Entry.{Args}
use mathlib.Core.Path.{◌≡◌}
use Rattle.call_words.specs.Ties.{Ties}
use Rattle.call_words.specs.SessionWords.{session_words}
use Rattle.session_state.specs.Counts.{fresh_counts}
use Rattle.state_calls.specs.contracts.calls.bt_fresh as of-bt-fresh
use Rattle.state_calls.proofs.calls.bt_fresh.Reads as reads-bt-fresh

-- bt_fresh: the words of a session, which it writes.
abbrev pub FreshTied : (κs : Lfts (of-bt-fresh.ended).signature.lifetimes) → Args (of-bt-fresh.ended).signature κs → AtExit of-bt-fresh.ended κs → Type 0
FreshTied κs
    _
    (session', _) =
    session'.now ≡ session_words fresh_counts

pub fresh_tied : Ties of-bt-fresh.ended reads-bt-fresh.Post FreshTied
fresh_tied κs a x u p = p
