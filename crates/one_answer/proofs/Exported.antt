-- The exported calls, and what makes their words. Each contract is an equation, or one for each thing that it speaks of. Assumes nothing.
use mathlib.Core.Path.{refl, ap}
use Rattle.session.specs.PlanCall.{Buffers}
use Rattle.session_state.specs.Value.{Lent}
use Rattle.one_answer.specs.Exported.{ExportedBind}
use Rattle.one_answer.proofs.Once.{once, joined, skip}

pub exported_bind : ExportedBind
exported_bind =
    record {
      refusal_words = λ κs a x y u v p q. (once p q, refl);
      write_words = λ κs a x y u v p q. (once p q, refl);
      bt_read_number = λ κs a x y u v p q. (refl, skip (skip (skip (joined (once p q) refl))));
      bt_read_filter_number = λ κs a x y u v p q. (refl, skip (skip (skip (joined (once p q) refl))));
      bt_read_prefixed = λ κs a x y u v p q. (refl, skip (skip (skip (joined (once p q) refl))));
      bt_read_hashes = λ κs a x y u v p q. (refl, skip (skip (skip (joined (once p q) refl))));
      bt_write_number = λ κs a x y u v p q. (refl, skip (joined (once p.content q.content) (joined (once p.answer q.answer) refl)));
      bt_write_prefixed = λ κs a x y u v p q. (refl, skip (joined (once p.content q.content) (joined (once p.answer q.answer) refl)));
      bt_write_hashes = λ κs a x y u v p q. (refl, skip (joined (once p.content q.content) (joined (once p.answer q.answer) refl)));
      bt_limits = λ κs a x y u v p q. (refl, joined (once p q) refl);
      bt_read_filter = λ κs a x y u v p q. (refl, skip (skip (skip (joined (once p q) refl))));
      bt_write_filter = λ κs a x y u v p q. (refl, skip (skip (skip (skip (joined (once p.content q.content) (joined (once p.answer q.answer) refl))))));
      bt_build_filter = λ κs a x y u v p q. (refl, skip (skip (skip (joined (once p.content q.content) (joined (once p.answer q.answer) refl)))));
      bt_filters_contain = λ κs a x y u v p q. (refl, skip (skip (skip (joined (once p q) refl))));
      bt_check_table = λ κs a x y u v p q. (refl, skip (joined (once p q) refl));
      bt_check_tables = λ κs a x y u v p q. (refl, skip (skip (skip (joined (once p q) refl))));
      bt_build_index = λ κs a x y u v p q. (refl, skip (joined (once p.content q.content) (joined (once p.answer q.answer) refl)));
      bt_extend_index = λ κs a x y u v p q. (refl, skip (skip (joined (once p.content q.content) (joined (once p.answer q.answer) refl))));
      bt_widen_rows = λ κs a x y u v p q. (refl, skip (joined (once p.content q.content) (joined (once p.answer q.answer) refl)));
      bt_narrow_rows = λ κs a x y u v p q. (refl, skip (joined (once p.content q.content) (joined (once p.answer q.answer) refl)));
      bt_heads = λ κs a x y u v p q. (refl, skip (skip (skip (joined (once p.content q.content) (joined (once p.answer q.answer) refl)))));
      bt_beyond = λ κs a x y u v p q. (refl, skip (skip (skip (joined (once p.content q.content) (joined (once p.answer q.answer) refl)))));
      bt_missing = λ κs a x y u v p q. (refl, skip (skip (skip (skip (joined (once p.content q.content) (joined (once p.answer q.answer) refl))))));
      bt_check_settings = λ κs a x y u v p q. (refl, skip (joined (once p q) refl));
      bt_setting_at = λ κs a x y u v p q. (refl, skip (skip (skip (joined (once p q) refl))));
      bt_append_setting = λ κs a x y u v p q. (refl, skip (skip (skip (skip (skip (joined (once p.content q.content) (joined (once p.answer q.answer) refl)))))));
      bt_count_capture = λ κs a x y u v p q. (refl, skip (skip (skip (joined (once p q) refl))));
      bt_add_counts = λ κs a x y u v p q. (refl, joined (once p.content q.content) (skip (skip (skip (skip (skip (joined (once p.answer q.answer) refl)))))));
      counted_words = λ κs a x y u v p q. (once p q, refl);
      added_words = λ κs a x y u v p q. (once p q, refl);
      totals_of = λ κs a x y u v p q. (once p q, refl);
      totals_after = λ κs a x y u v p q. (once p q, refl);
      bt_salvage = λ κs a x y u v p q. (refl, skip (joined (once p.table q.table) (joined (once p.told q.told) (joined (once p.answer q.answer) refl))));
      bt_pick = λ κs a x y u v p q. (refl, skip (skip (skip (skip (skip (joined (once p.content q.content) (joined (once p.answer q.answer) refl)))))));
      bt_check_pick = λ κs a x y u v p q. (refl, skip (skip (skip (skip (skip (skip (joined (once p q) refl)))))));
      bt_fresh = λ κs a x y u v p q. (refl, joined (once p q) refl);
      bt_fresh_read_only = λ κs a x y u v p q. (refl, joined (once p q) refl);
      bt_set_read_only = λ κs a x y u v p q. (refl, joined (once p q) refl);
      bt_check_session = λ κs a x y u v p q. (refl, skip (skip (skip (skip (skip (skip (skip (skip (joined (once p q) refl)))))))));
      bt_write_state = λ κs a x y u v p q. (refl, skip (skip (joined (once p.content q.content) (joined (once p.answer q.answer) refl))));
      bt_read_state = λ κs a x y u v p q. (refl, skip (joined (once p.shared q.shared) (joined (once p.session q.session) (joined (once p.answer q.answer) refl))));
      bt_plan = λ κs a x y u v p q.
          let same = once p.buffers q.buffers in
          let kept = once p.lists q.lists in (
            refl,
            joined (once p.session q.session) (skip
                (joined (ap (λ (l : Lent). l.last_sent) kept)
                (skip (skip (skip (skip
                (joined (ap (λ (l : Lent). l.sent) kept)
                (skip (skip (skip
                (joined (ap (λ (b : Buffers). b.heads) same)
                (joined (ap (λ (b : Buffers). b.need) same)
                (joined (ap (λ (b : Buffers). b.have) same)
                (joined (ap (λ (b : Buffers). b.list) same)
                (joined (once p.answer q.answer) refl))))))))))))))),
          );
      bt_plan_with = λ κs a x y u v p q.
          let same = once p.buffers q.buffers in
          let kept = once p.lists q.lists in (
            refl,
            skip (skip (joined (once p.session q.session) (skip
                (joined (ap (λ (l : Lent). l.last_sent) kept)
                (skip (skip (skip (skip
                (joined (ap (λ (l : Lent). l.sent) kept)
                (skip (skip (skip
                (joined (ap (λ (b : Buffers). b.heads) same)
                (joined (ap (λ (b : Buffers). b.need) same)
                (joined (ap (λ (b : Buffers). b.have) same)
                (joined (ap (λ (b : Buffers). b.list) same)
                (joined (once p.answer q.answer) refl))))))))))))))))),
          );
      bt_plan_settled = λ κs a x y u v p q.
          let same = once p.buffers q.buffers in
          let kept = once p.lists q.lists in (
            refl,
            skip (skip (skip (joined (once p.session q.session) (skip
                (joined (ap (λ (l : Lent). l.last_sent) kept)
                (skip (skip (skip (skip
                (joined (ap (λ (l : Lent). l.sent) kept)
                (skip (skip (skip
                (joined (ap (λ (b : Buffers). b.heads) same)
                (joined (ap (λ (b : Buffers). b.need) same)
                (joined (ap (λ (b : Buffers). b.have) same)
                (joined (ap (λ (b : Buffers). b.list) same)
                (joined (once p.answer q.answer) refl)))))))))))))))))),
          );
      bt_plan_picked = λ κs a x y u v p q.
          let same = once p.buffers q.buffers in
          let kept = once p.lists q.lists in (
            refl,
            skip (skip (skip (skip (skip (skip (joined (once p.session q.session) (skip
                (joined (ap (λ (l : Lent). l.last_sent) kept)
                (skip (skip (skip (skip
                (joined (ap (λ (l : Lent). l.sent) kept)
                (skip (skip (skip
                (joined (ap (λ (b : Buffers). b.heads) same)
                (joined (ap (λ (b : Buffers). b.need) same)
                (joined (ap (λ (b : Buffers). b.have) same)
                (joined (ap (λ (b : Buffers). b.list) same)
                (joined (once p.answer q.answer) refl))))))))))))))))))))),
          );
      bt_receive = λ κs a x y u v p q.
          let same = once p.lists q.lists in (
            refl,
            joined (once p.session q.session)
                (joined (ap (λ (l : Lent). l.shared) same)
                (joined (ap (λ (l : Lent). l.last_sent) same)
                (joined (ap (λ (l : Lent). l.their_heads) same)
                (joined (ap (λ (l : Lent). l.their_need) same)
                (joined (ap (λ (l : Lent). l.haves) same)
                (joined (ap (λ (l : Lent). l.bytes) same)
                (joined (ap (λ (l : Lent). l.sent) same)
                (skip (skip (skip (skip (skip
                (joined (once p.answer q.answer) refl))))))))))))),
          );
      bt_hashes_to_send = λ κs a x y u v p q. (refl, skip (skip (skip (skip (skip (joined (once p.content q.content) (joined (once p.answer q.answer) refl)))))));
      bt_offer = λ κs a x y u v p q. (refl, skip (skip (skip (skip (skip (skip (skip (skip (skip (skip (joined (once p.content q.content) (joined (once p.answer q.answer) refl))))))))))));
      bt_read_message = λ κs a x y u v p q. (refl, skip (joined (once p.haves q.haves) (joined (once p.chunks q.chunks) (joined (once p.ignored q.ignored) (joined (once p.answer q.answer) refl)))));
      bt_peek_heads = λ κs a x y u v p q. (refl, skip (joined (once p.content q.content) (joined (once p.answer q.answer) refl)));
      bt_write_message = λ κs a x y u v p q. (refl, skip (skip (skip (skip (skip (skip (skip (skip (joined (once p.content q.content) (joined (once p.answer q.answer) refl))))))))));
      number_words = λ κs a x y u v p q. (once p q, refl);
      prefixed_words = λ κs a x y u v p q. (once p q, refl);
      hash_list_words = λ κs a x y u v p q. (once p q, refl);
      filter_words = λ κs a x y u v p q. (once p q, refl);
      contained_words = λ κs a x y u v p q. (once p q, refl);
      setting_words = λ κs a x y u v p q. (once p q, refl);
      salvage_words = λ κs a x y u v p q. (once p q, refl);
      pick_words = λ κs a x y u v p q. (once p q, refl);
      session_words = λ κs a x y u v p q. (once p q, refl);
      session_of = λ κs a x y u v p q. (once p q, refl);
      good_words = λ κs a x y u v p q. (once p q, refl);
      saved_words = λ κs a x y u v p q. (once p q, refl);
      saved_session = λ κs a x y u v p q. (once p q, refl);
      planned_words = λ κs a x y u v p q. (once p q, refl);
      planned_session = λ κs a x y u v p q. (once p q, refl);
      received_words = λ κs a x y u v p q. (once p q, refl);
      received_session = λ κs a x y u v p q. (once p q, refl);
      offer_words = λ κs a x y u v p q. (once p q, refl);
      version_word = λ κs a x y u v p q. (once p q, refl);
      version_of = λ κs a x y u v p q. (once p q, refl);
      section_word = λ κs a x y u v p q. (once p q, refl);
      section_of = λ κs a x y u v p q. (once p q, refl);
      decoded_words = λ κs a x y u v p q. (once p q, refl);
      peeked_words = λ κs a x y u v p q. (once p q, refl);
    }
