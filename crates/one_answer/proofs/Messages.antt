-- Calls that read and write messages. Each contract is an equation, or one for each thing that it speaks of. Assumes nothing.
use mathlib.Core.Path.{refl}
use Rattle.message.specs.declared.version.MessageVersion.TheVariants.{V1}
use Rattle.one_answer.specs.Messages.{MessagesBind}
use Rattle.one_answer.proofs.Once.{once, joined, skip}

pub messages_bind : MessagesBind
messages_bind =
    record {
      new = λ κs a x y u v p q. (once p q, refl);
      contains = λ κs a x y u v p q. (once p q, refl);
      wants_reset = λ κs a x y u v p q. (once p q, refl);
      read_only = λ κs a x y u v p q. (once p q, refl);
      supports_reset = λ κs a x y u v p q. (once p q, refl);
      set = λ κs a x y u v p q. (once p q, refl);
      version_encode = λ κs a x y u v p q. (once p q, refl);
      parse_chunks = λ κs a x y u v p q. (once p q, refl);
      parse_have = λ κs a x y u v p q. (once p q, refl);
      parse_haves = λ κs a x y u v p q. (once p q, refl);
      decode = λ κs a x y u v p q. (once p.answer q.answer, skip (joined (once p.haves q.haves) (joined (once p.chunks q.chunks) (joined (once p.ignored q.ignored) refl))));
      parse_opening = λ κs a x y u v p q. (once p q, refl);
      parse_section = λ κs a x y u v p q. (once p q, refl);
      parse = λ κs a x y u v p q. (once p q, refl);
      peek_heads = λ κs a x y u v p q. (once p.answer q.answer, skip (joined (once p.content q.content) refl));
      message_size = λ κs a x y u v p q. (once (p V1) (q V1), refl);
      encode = λ κs a x y u v p q. (once p.answer q.answer, joined (once p.content q.content) refl);
      reader_hashes_at = λ κs a x y u v p q. (once p q, refl);
      first_list = λ κs a x y u v p q. (once p q, refl);
    }
