-- `send_records::to_send::laid_to_send` meets its contract: the selection's own, at the words that are laid. Assumes nothing.
use mathlib.Core.List.{List}
use mathlib.Core.Path.{subst}
use Prim.Native.Nat.{ℕ}
use Rattle.rules.specs.Output.{Written}
use Rattle.send.specs.ToSend.{to_send_output}
use Rattle.send_records.proofs.LaidLaws.{used_is}
use Rattle.send_records.proofs.to_send.laid_to_send.Goals as goal

pub returns : goal.returns
returns c =
    subst
    (λ (w : List ℕ). Written (to_send_output c.args.table.now c.args.index.now c.args.bytes.now w c.args.need.now) c.args.out.now
    c.get_hashes_to_send.new.out c.get_hashes_to_send.result)
    (used_is c.args.laid _ c.at_most-count.ensures) c.get_hashes_to_send.ensures
