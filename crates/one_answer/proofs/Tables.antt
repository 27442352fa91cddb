-- Calls over tables, the hashes to send, settings, counts, tables that are salvaged, and picks. Each contract is an equation, or one for each thing that it speaks of. Assumes nothing.
use mathlib.Core.Path.{refl}
use Rattle.one_answer.specs.Tables.{TablesBind}
use Rattle.one_answer.proofs.Once.{once, joined, skip}

pub tables_bind : TablesBind
tables_bind =
    record {
      check_tables = λ κs a x y u v p q. (once p q, refl);
      check_indexed = λ κs a x y u v p q. (once p q, refl);
      check_alone = λ κs a x y u v p q. (once p q, refl);
      build_index = λ κs a x y u v p q. (once p.answer q.answer, skip (joined (once p.content q.content) refl));
      widen_rows = λ κs a x y u v p q. (once p.answer q.answer, skip (joined (once p.content q.content) refl));
      narrow_rows = λ κs a x y u v p q. (once p.answer q.answer, skip (joined (once p.content q.content) refl));
      extend_index = λ κs a x y u v p q. (once p.answer q.answer, skip (skip (joined (once p.content q.content) refl)));
      beyond = λ κs a x y u v p q. (once p.answer q.answer, skip (skip (skip (joined (once p.content q.content) refl))));
      heads = λ κs a x y u v p q. (once p.answer q.answer, skip (skip (skip (joined (once p.content q.content) refl))));
      missing = λ κs a x y u v p q. (once p.answer q.answer, skip (skip (skip (skip (joined (once p.content q.content) refl)))));
      get_hashes_to_send = λ κs a x y u v p q. (once p.answer q.answer, skip (skip (skip (skip (skip (joined (once p.content q.content) refl))))));
      summary_in = λ κs a x y u v p q. (once p q, refl);
      crate_choice = λ κs a x y u v p q. (once p q, refl);
      allowed = λ κs a x y u v p q. (once p q, refl);
      check_settings = λ κs a x y u v p q. (once p q, refl);
      setting_at = λ κs a x y u v p q. (once p q, refl);
      append_setting = λ κs a x y u v p q. (once p.answer q.answer, skip (skip (skip (joined (once p.content q.content) refl))));
      count_capture = λ κs a x y u v p q. (once p q, refl);
      add_counts = λ κs a x y u v p q. (once p q, refl);
      salvage_table = λ κs a x y u v p q. (once p.answer q.answer, skip (joined (once p.table q.table) (joined (once p.told q.told) refl)));
      check_pick = λ κs a x y u v p q. (once p q, refl);
      pick = λ κs a x y u v p q. (once p.answer q.answer, skip (skip (skip (skip (skip (joined (once p.content q.content) refl))))));
    }
