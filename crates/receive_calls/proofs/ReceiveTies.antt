-- The contract that is proved of bt_receive, held beside its arguments in the order in which C lends them. A contract with two of them exchanged, in its
-- text and in the code alike, is refused here. Assumes nothing.
use contract.Lifetimes.{Lfts}
use denote.Triple.Clauses.{AtExit}
use denote.Triple.Entry.{Args}
use Rattle.call_words.specs.Ties.{Ties}
use Rattle.session_check.specs.SessionGood.{lent_of}
use Rattle.call_words.specs.SessionWords.{flag_of}
use Rattle.receive_calls.specs.ReceiveWords.{ReceiveAnswered}
use Rattle.receive_calls.specs.contracts.calls.bt_receive as of-bt-receive
use Rattle.receive_calls.proofs.calls.bt_receive.Reads as reads-bt-receive

-- Fourteen arguments, of which it changes the session's words, all its lists and the answer.
abbrev pub ReceiveTied : (κs : Lfts (of-bt-receive.ended).signature.lifetimes) → Args (of-bt-receive.ended).signature κs → AtExit of-bt-receive.ended κs → Type 0
ReceiveTied κs
    (session, (shared, (last-sent, (their-heads, (their-need, (haves, (bytes, (sent, (table, (index, (before, (message, (loaded, (answer, _))))))))))))))
    (session', (shared', (last-sent', (their-heads', (their-need', (haves', (bytes', (sent', (_, (_, (_, (_, (_, (answer', _)))))))))))))) =
    ReceiveAnswered session.now session'.now
    (lent_of shared.now last-sent.now their-heads.now their-need.now haves.now bytes.now sent.now)
    (lent_of shared'.now last-sent'.now their-heads'.now their-need'.now haves'.now bytes'.now sent'.now)
    table.now index.now before message.now (flag_of loaded) answer'.now

pub receive_tied : Ties of-bt-receive.ended reads-bt-receive.Post ReceiveTied
receive_tied κs a x u p = p
