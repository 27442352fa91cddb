-- `pick::check::sum_fits` meets its contract: what is left of the budget fits the sizes that are left if the budget fits all of them (BrokenLaws), and each
-- hash has a row. Assumes nothing.
use mathlib.Core.Bool.{true}
use mathlib.Core.Path.{◌≡◌}
use lib.Dec.{leb}
use Rattle.hash_order.specs.Order.{every}
use Rattle.rules.specs.Hash.{hashes_at}
use Rattle.table.specs.Table.{held}
use Rattle.table.specs.TableBytes.{rows_at}
use Rattle.pick.specs.Picking.{size_sum}
use Rattle.pick.proofs.BrokenLaws.{pick_rest, sum_left}
use Rattle.pick.proofs.check.sum_fits.Given as goal

abbrev pub invariant-loop-k : goal.invariant-loop-k
invariant-loop-k l =
    record {
      ours : every (held (rows_at l.table 0 l.n)) (pick_rest l.pick l.count l.k) ≡ true;
      rest : sum_left (rows_at l.table 0 l.n) l.row_sizes l.pick l.count l.k l.left ≡ leb (size_sum (rows_at l.table 0 l.n) l.row_sizes (hashes_at l.pick 0 l.count)) l.budget;
    }
