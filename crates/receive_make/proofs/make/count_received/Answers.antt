-- `receive_make::make::count_received` meets its contract: one part after the other is counted. Assumes nothing.
use mathlib.Core.Path.{refl}
use native.Mathlib.Omega.{arith}
use Rattle.receive_make.proofs.MakeLaws.{left_counted, keeps_there}
use Rattle.receive_make.proofs.SaidLaws.{read_words}
use Rattle.receive_make.proofs.make.count_received.Goals as goal

pub count_shared-count-requires : goal.count_shared-count-requires
count_shared-count-requires c =
    let words = read_words _ _ c.requires.0.placed in
    (c.requires.0.rows, c.requires.0.up_to, c.requires.0.shared, words.heads_there, c.requires.0.shared_few)

pub count_left-left-requires : goal.count_left-left-requires
count_left-left-requires c =
    (c.requires.0.rows, c.requires.1.long, keeps_there _ _ _ _ c.kept_hashes-keeps.ensures c.requires.0.sent)

pub told_heads-told-requires : goal.told_heads-told-requires
told_heads-told-requires c =
    (c.requires.0.rows, c.requires.0.up_to, (read_words _ _ c.requires.0.placed).heads_there)

pub returns : goal.returns
returns c =
    record {
      shared = c.count_shared-count.ensures;
      sent = left_counted _ _ _ _ _ _ _ _ _ c.requires.1.marked.rows c.kept_hashes-keeps.ensures c.count_left-left.ensures;
      told = c.told_heads-told.ensures;
      last_sent = c.last_sent_after-last_sent.ensures;
      heads = refl;
      need = refl;
      haves = refl;
      room = omega (arith, c.make_words-bytes.auto.words, c.requires.2);
      words = c.make_words-bytes.ensures;
    }
