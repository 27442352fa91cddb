-- `counts::totals::total_passes` meets its contract: what is left up to the most is less than what is added. Assumes nothing.
use native.Mathlib.Omega.{arith}
use Rattle.counts.proofs.TotalLaws.{total_past}
use Rattle.counts.proofs.totals.total_passes.Goals as goal

pub returns : goal.returns
returns c = total_past c.args.total _ (omega (arith, c.ranges.total))
