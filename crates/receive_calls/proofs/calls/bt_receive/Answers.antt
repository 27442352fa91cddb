-- `receive_calls::calls::bt_receive` meets its contract: the words, the session and the lists of what receiving ensures. Assumes nothing.
use Rattle.receive_calls.proofs.ReceiveWordLaws.{receive_answered}
use Rattle.receive_calls.proofs.calls.bt_receive.Goals as goal

pub returns : goal.returns
returns c =
    receive_answered _ _ c.session_of.ensures c.receive_sync_message-received.ensures c.received_session.ensures
    c.received_words.ensures
