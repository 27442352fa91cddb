-- `sample_replay::walk::walk` meets its contract. The loop's invariant, `Replaying`: what is counted and what the walk from here meets are the whole walk's
-- counts. The measure is what is left of the bytes. Assumes nothing.
use mathlib.Core.Path.{sym, ◌∙◌, ap}
use native.Mathlib.Omega.{arith}
use Rattle.sample_replay.specs.declared.walk.ReplayCounts.{ReplayCounts}
use Rattle.sample_replay.proofs.Walks.{whole, starts, ends, room, goes_on}
use Rattle.sample_replay.proofs.walk.walk.Goals as goal

pub loop-kind-init : goal.loop-kind-init
loop-kind-init c = starts _ _ c.default-counts.ensures

pub add-requires : goal.add-requires
add-requires c = room _ _ c.loop-kind.invariant _ (sym c.record_at.ensures ∙ c.in-Some.is) (omega arith)

pub loop-kind-smaller : goal.loop-kind-smaller
loop-kind-smaller c =
    let w = whole _ _ _ (sym c.record_at.ensures ∙ c.in-Some.is) in
    omega (arith, w.onward, w.inside, ap (λ (r : ReplayCounts). r.end) c.add.ensures)

pub loop-kind-preserved : goal.loop-kind-preserved
loop-kind-preserved c = rw c.add.ensures (goes_on _ _ c.loop-kind.invariant _ (sym c.record_at.ensures ∙ c.in-Some.is))

pub returns : goal.returns
returns c = ends _ _ c.loop-kind.invariant (sym c.record_at.ensures ∙ c.in_default.is)
