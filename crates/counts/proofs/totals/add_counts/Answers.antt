-- `counts::totals::add_counts` meets its contract: where no sum passes, each fits. Assumes nothing.
use Prim.Native.Nat.{◌+◌, ◌≤◌}
use mathlib.Core.Path.{sym, ◌∙◌}
use native.Mathlib.Omega.{arith}
use Rattle.counts.specs.Totals.{most_total}
use Rattle.counts.proofs.TotalLaws.{added_past, made, sum_fits}
use Rattle.counts.proofs.totals.add_counts.Goals as goal

pub returns-then-sum_passes : goal.returns-then-sum_passes
returns-then-sum_passes c = added_past _ _ (sym c.sum_passes.ensures ∙ c.if-sum_passes.true)

pub overflow_add-result : goal.overflow_add-result
overflow_add-result c = let fits = (let it : (c.args.totals.entries + c.args.counts.entries ≤ most_total)
    × (c.args.totals.field_bits + c.args.counts.field_bits ≤ most_total)
    × (c.args.totals.set_bits + c.args.counts.set_bits ≤ most_total)
    × (c.args.totals.tested + c.args.counts.tested ≤ most_total)
    × (c.args.totals.contained + c.args.counts.contained ≤ most_total) = sum_fits _ _ (sym c.sum_passes.ensures ∙ c.if-sum_passes.false) in it) in omega (arith, fits.0)

pub overflow_add-result-2 : goal.overflow_add-result-2
overflow_add-result-2 c = let fits = (let it : (c.args.totals.entries + c.args.counts.entries ≤ most_total)
    × (c.args.totals.field_bits + c.args.counts.field_bits ≤ most_total)
    × (c.args.totals.set_bits + c.args.counts.set_bits ≤ most_total)
    × (c.args.totals.tested + c.args.counts.tested ≤ most_total)
    × (c.args.totals.contained + c.args.counts.contained ≤ most_total) = sum_fits _ _ (sym c.sum_passes.ensures ∙ c.if-sum_passes.false) in it) in omega (arith, fits.1)

pub overflow_add-result-3 : goal.overflow_add-result-3
overflow_add-result-3 c = let fits = (let it : (c.args.totals.entries + c.args.counts.entries ≤ most_total)
    × (c.args.totals.field_bits + c.args.counts.field_bits ≤ most_total)
    × (c.args.totals.set_bits + c.args.counts.set_bits ≤ most_total)
    × (c.args.totals.tested + c.args.counts.tested ≤ most_total)
    × (c.args.totals.contained + c.args.counts.contained ≤ most_total) = sum_fits _ _ (sym c.sum_passes.ensures ∙ c.if-sum_passes.false) in it) in omega (arith, fits.2)

pub overflow_add-result-4 : goal.overflow_add-result-4
overflow_add-result-4 c = let fits = (let it : (c.args.totals.entries + c.args.counts.entries ≤ most_total)
    × (c.args.totals.field_bits + c.args.counts.field_bits ≤ most_total)
    × (c.args.totals.set_bits + c.args.counts.set_bits ≤ most_total)
    × (c.args.totals.tested + c.args.counts.tested ≤ most_total)
    × (c.args.totals.contained + c.args.counts.contained ≤ most_total) = sum_fits _ _ (sym c.sum_passes.ensures ∙ c.if-sum_passes.false) in it) in omega (arith, fits.3)

pub overflow_add-result-5 : goal.overflow_add-result-5
overflow_add-result-5 c = let fits = (let it : (c.args.totals.entries + c.args.counts.entries ≤ most_total)
    × (c.args.totals.field_bits + c.args.counts.field_bits ≤ most_total)
    × (c.args.totals.set_bits + c.args.counts.set_bits ≤ most_total)
    × (c.args.totals.tested + c.args.counts.tested ≤ most_total)
    × (c.args.totals.contained + c.args.counts.contained ≤ most_total) = sum_fits _ _ (sym c.sum_passes.ensures ∙ c.if-sum_passes.false) in it) in omega (arith, fits.4)

pub returns : goal.returns
returns c =
    made _ _ (sym c.sum_passes.ensures ∙ c.if-sum_passes.false)
