-- `waiting_missing::take::take_refs` meets its contract: before each turn the numbers below i are taken. Assumes nothing.
use mathlib.Core.Path.{refl}
use native.Mathlib.Omega.{arith}
use Rattle.waiting_missing.proofs.FoundLaws.{took_start, took_next, took_end}
use Rattle.waiting_missing.proofs.take.take_refs.Goals as goal

pub loop-i-init : goal.loop-i-init
loop-i-init c = took_start _ _ c.requires.2 refl

pub take_ref-found-requires : goal.take_ref-found-requires
take_ref-found-requires c = (c.requires.0, c.requires.1, c.loop-i.invariant.found, omega arith)

pub loop-i-preserved : goal.loop-i-preserved
loop-i-preserved c = took_next _ _ c.loop-i.auto.i c.loop-i.auto.refs c.loop-i.invariant c.take_ref-found.ensures

pub returns : goal.returns
returns c = took_end _ _ _ (omega arith) c.loop-i-test.false c.loop-i.invariant
