-- `message_size::size::prefixed_filter_size` meets its contract: a filter that fits its size has no more bytes than its numbers and the largest field. Assumes nothing.
use Prim.Native.Nat.{◌≤◌}
use native.Mathlib.Omega.{arith}
use Rattle.message_size.proofs.SizeLaws.{most_filter_lem, filter_small, prefixed_sum, ten}
use Rattle.message_size.proofs.size.prefixed_filter_size.Goals as goal

pub overflow_add-result : goal.overflow_add-result
overflow_add-result c = omega (arith, (let it : c.filter_size-size.result ≤ most_filter_lem = rw c.filter_size-size.ensures (filter_small _ _ _ _ c.ranges.entries.fits c.ranges.bits.fits c.ranges.probes.fits c.requires) in it), c.unsigned_size.ensures, ten c.filter_size-size.result (omega (arith, (let it : c.filter_size-size.result ≤ most_filter_lem = rw c.filter_size-size.ensures (filter_small _ _ _ _ c.ranges.entries.fits c.ranges.bits.fits c.ranges.probes.fits c.requires) in it))))

pub returns : goal.returns
returns c = prefixed_sum _ _ _ c.filter_size-size.ensures c.unsigned_size.ensures
