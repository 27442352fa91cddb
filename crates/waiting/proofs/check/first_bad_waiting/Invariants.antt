-- `waiting::check::first_bad_waiting` meets its contract: the first bad one of the waiting rows from i on is that of all, until row i is bad or no row is
-- left, and the rows before row i stand in order. Assumes nothing.
use Prim.Native.Nat.{ℕ, ◌<◌}
use mathlib.Core.Bool.{true}
use mathlib.Core.Path.{◌≡◌}
use Rattle.table_index.specs.Index.{indexed, record_hash}
use Rattle.table.specs.TableBytes.{rows_at, u16s_at, first_bad}
use Rattle.table.proofs.CheckLaws.{testing}
use Rattle.waiting.specs.WaitingBytes.{waiting_size}
use Rattle.waiting.proofs.Today.{waiting_good}
use Rattle.waiting.proofs.check.first_bad_waiting.Given as goal

abbrev pub invariant-loop-i : goal.invariant-loop-i
invariant-loop-i l =
    record {
      each : (j : ℕ) → j < l.i → waiting_good (rows_at l.table 0 l.n) l.waiting j ≡ true;
      sorted : u16s_at l.order 0 l.i ≡ indexed (record_hash l.waiting waiting_size) l.i;
      rest : testing (waiting_good (rows_at l.table 0 l.n) l.waiting) l.m l.i ≡ first_bad (waiting_good (rows_at l.table 0 l.n) l.waiting) 0 l.m;
    }
