-- Reading what was written gives the message back. 01, Wire: ".. if its filters have n at least 1 or are the default and its flags are below 80."
-- What writing tests and these two are all that reading relies on.
use Prim.Native.Nat.{ℕ}
use mathlib.Core.List.{List}
use mathlib.Core.Path.{◌≡◌}
use Rattle.message_read.proofs.RoundTrip.{ReadBack, message_there_and_back}
use Rattle.message.specs.Sound.{ReadsBack}
use Rattle.rules.specs.Hash.{Bytes}
use Rattle.rules.specs.Output.{Output}
use Rattle.message.specs.Write.{Parts, message_of, message_output}
use Rattle.message_write.proofs.SoundLaws.{written_sound}
use Rattle.message_size.proofs.WriteLaws.{message_written}

pub written_and_read : (p : Parts) (l : List ℕ)
    → Bytes p.heads → Bytes p.need → Bytes p.bytes
    → message_output p ≡ Output.bytes l
    → ReadsBack (message_of p)
    → ReadBack l (message_of p)
written_and_read p l bh bn bb e said =
    message_there_and_back l (message_of p) (message_written p l e).is (written_sound p l bh bn bb e) said
