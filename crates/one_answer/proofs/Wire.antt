-- Calls that read and write items, and those of filters. Each contract is an equation, or one for each thing that it speaks of. Assumes nothing.
use mathlib.Core.Path.{refl}
use Rattle.one_answer.specs.Wire.{WireBind}
use Rattle.one_answer.proofs.Once.{once, joined}

pub wire_bind : WireBind
wire_bind =
    record {
      passed_hashes = λ κs a x y u v p q. (once p q, refl);
      passed_up_to = λ κs a x y u v p q. (once p q, refl);
      number = λ κs a x y u v p q. (once p q, refl);
      value = λ κs a x y u v p q. (once p q, refl);
      limits = λ κs a x y u v p q. (once p q, refl);
      within = λ κs a x y u v p q. (once p q, refl);
      leb128_u64 = λ κs a x y u v p q. (once p q, refl);
      leb128_u32 = λ κs a x y u v p q. (once p q, refl);
      unsigned_size = λ κs a x y u v p q. (once p q, refl);
      write_unsigned = λ κs a x y u v p q. (once p.answer q.answer, joined (once p.content q.content) refl);
      encode_bytes = λ κs a x y u v p q. (once p.answer q.answer, joined (once p.content q.content) refl);
      encode_hashes = λ κs a x y u v p q. (once p.answer q.answer, joined (once p.content q.content) refl);
      left = λ κs a x y u v p q. (once p q, refl);
      length_prefix = λ κs a x y u v p q. (once p q, refl);
      length_prefixed_bytes = λ κs a x y u v p q. (once p q, refl);
      length_prefixed_hashes = λ κs a x y u v p q. (once p q, refl);
      inside = λ κs a x y u v p q. (once p q, refl);
      passed_good = λ κs a x y u v p q. (once p q, refl);
      passed_few = λ κs a x y u v p q. (once p q, refl);
      parse = λ κs a x y u v p q. (once p q, refl);
      parse_counted = λ κs a x y u v p q. (once p q, refl);
      filter_rules = λ κs a x y u v p q. (once p q, refl);
      build_rules = λ κs a x y u v p q. (once p q, refl);
      pair_good = λ κs a x y u v p q. (once p q, refl);
      filter_size = λ κs a x y u v p q. (once p q, refl);
      to_bytes = λ κs a x y u v p q. (once p.answer q.answer, joined (once p.content q.content) refl);
      clear = λ κs a x y u v p q. (refl, joined (once p q) refl);
      from_hashes = λ κs a x y u v p q. (once p.answer q.answer, joined (once p.content q.content) refl);
      filters_contain = λ κs a x y u v p q. (once p q, refl);
      count = λ κs a x y u v p q. (once p q, refl);
    }
