-- `salvage_rules::classes::put_classes` meets its contract: no two entries of the order name one row, so that each turn settles one row and touches no
-- other (ClassLaws). Assumes nothing.
use Prim.Native.Nat.{ℕ, ◌-◌, ◌*◌, ◌<◌}
use mathlib.Core.Path.{◌≡◌}
use lib.ListN.{get_or}
use Rattle.rules.specs.LittleEndian.{u16_at}
use Rattle.table.specs.TableBytes.{row_size_of}
use Rattle.table_index.specs.Index.{record_hash}
use Rattle.salvage_rules.specs.Internal.Decided.{run_start}
use Rattle.salvage_rules.proofs.classes.put_classes.Given as goal

abbrev pub invariant-loop-k : goal.invariant-loop-k
invariant-loop-k l =
    record {
      last : l.start ≡ run_start (λ j. record_hash l.table (row_size_of l.d) (u16_at l.order (2 * j))) (l.k - 1);
      done : (a : ℕ) → a < l.k → get_or l.classes (u16_at l.order (2 * a)) 0 ≡ run_start (λ j. record_hash l.table (row_size_of l.d) (u16_at l.order (2 * j))) a;
    }
