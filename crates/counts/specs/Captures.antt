-- The counts of a capture: a filter as it was heard, with a change table of its sender and one of its listener. 02, M-108: exact whole numbers, and the
-- refusals of tables and filters.
use Rattle.std.specs.Prelude.{ℕ, zero, suc, ◌+◌, ◌*◌, not, List, length, Result, Ok, Err}
use Rattle.bloom.specs.Filter.{Filter}
use Rattle.bloom.specs.FilterRead.{filter_at, after_filter}
use Rattle.bloom.specs.Have.{filter_with}
use Rattle.bloom_probe.specs.Contains.{contains}
use Rattle.bloom_probe.specs.Probes.{bit_at}
use Rattle.hash_order.specs.Order.{keep}
use Rattle.table.specs.Table.{Row, rows, held}
use Rattle.table.specs.TableBytes.{table_of, table_checked}
use Rattle.counts.specs.declared.totals.Counts.{Counts}
use Rattle.rules.specs.declared.refusal.Refusal.{Refusal}

-- The first k bits of a field, summed.
unfoldable pub bits_below : ℕ → List ℕ → ℕ
bits_below zero field = 0
bits_below (suc k) field = bits_below k field + bit_at field k

-- Set bits: all bits of the field summed, those behind the last entry's too.
unfoldable pub bits_set : List ℕ → ℕ
bits_set field = bits_below (8 * length field) field

-- The rows that are tested: those of the listener that the sender's table hasn't.
unfoldable pub outside : List Row → List Row → List ℕ
outside sender listener = keep (λ h. not (held sender h)) (rows listener)

-- The counts: entries, bits of the field, set bits, rows tested, and those of them that the filter contains nevertheless.
unfoldable pub capture_counts : List Row → List Row → Filter → Counts
capture_counts sender listener f =
    record {
      entries = f.entries;
      field_bits = 8 * length f.field;
      set_bits = bits_set f.field;
      tested = length (outside sender listener);
      contained = length (keep (contains f) (outside sender listener));
    }

-- What follows a table that is good, or its refusal passed on: 4, then 6.
unfoldable pub with_table : List ℕ → (List Row → Result Counts Refusal) → Result Counts Refusal
with_table s k = after (table_checked s)
  where
    after : Result ℕ Refusal → Result Counts Refusal
    after (Ok n) = k (table_of s)
    after (Err r) = Err r

-- The counts of a capture: the sender's table comes first, then the listener's, then the filter, whose place is counted from its own first byte.
unfoldable pub capture_counted : List ℕ → List ℕ → List ℕ → Result Counts Refusal
capture_counted sender listener filter =
    with_table sender
    (λ a.
    with_table listener
    (λ b. after_filter (filter_at filter 0 (length filter)) Err (λ f next. Ok (capture_counts a b (filter_with filter f)))))
