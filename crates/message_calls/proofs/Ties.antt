-- The contract that is proved of each call, held beside its arguments in the order in which C lends them. A contract with two of them exchanged, in its text
-- and in the code alike, is refused here. Assumes nothing.
use contract.Lifetimes.{Lfts}
use denote.Triple.Clauses.{AtExit}
use denote.Triple.Entry.{Args}
use Rattle.call_words.specs.Answer.{Answered}
use Rattle.call_words.specs.Ties.{Ties}
use Rattle.message.specs.Write.{parts_of, message_output}
use Rattle.message_calls.specs.MessageWords.{version_of, section_of}
use Rattle.message_calls.specs.contracts.calls.bt_write_message as of-bt-write-message
use Rattle.message_calls.proofs.calls.bt_write_message.Reads as reads-bt-write-message

-- bt_write_message: ten arguments, of which it changes the buffer and the answer.
abbrev pub WriteTied : (κs : Lfts (of-bt-write-message.ended).signature.lifetimes) → Args (of-bt-write-message.ended).signature κs → AtExit of-bt-write-message.ended κs → Type 0
WriteTied κs
    (version, (heads, (need, (bytes, (haves, (chunks, (lengths, (flags, (out, (answer, _))))))))))
    (_, (_, (_, (_, (_, (_, (_, (_, (out', (answer', _)))))))))) =
    Answered (message_output (parts_of (version_of version) heads.now need.now bytes.now haves.now chunks.now lengths.now (section_of flags))) out.now
    out'.now answer'.now

pub write_tied : Ties of-bt-write-message.ended reads-bt-write-message.Post WriteTied
write_tied κs a x u p = p
