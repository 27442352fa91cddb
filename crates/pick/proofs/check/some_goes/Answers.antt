-- `pick::check::some_goes` meets its contract: at each row none before it goes, whatever list the marks are of (AloneLaws). Assumes nothing.
use mathlib.Core.Path.{sym, ◌∙◌}
use native.Mathlib.Omega.{arith}
use Rattle.table.proofs.GoodLaws.{good_part}
use Rattle.pick.proofs.AloneLaws.{none_starts, none_next, row_alone, none_alone}
use Rattle.pick.proofs.check.some_goes.Goals as goal

pub loop-i-init : goal.loop-i-init
loop-i-init c = none_starts _ _ _ _ _

pub goes_now-requires : goal.goes_now-requires
goes_now-requires c = (
  good_part _ _ _ c.requires.0 (omega (arith, c.loop-i-test.true)),
  omega (arith, c.loop-i-test.true, c.requires.2),
  omega (arith, c.loop-i-test.true, c.requires.3),
)

pub returns-then-goes_now : goal.returns-then-goes_now
returns-then-goes_now c =
    λ list marks.
    row_alone _ _ c.requires.0 _ _ _ _ c.requires.4 _ c.loop-i-test.true (sym c.goes_now.ensures ∙ c.if-goes_now.true) list marks

pub loop-i-preserved : goal.loop-i-preserved
loop-i-preserved c =
    none_next _ _ c.requires.0 _ _ _ _ c.requires.4 _ c.loop-i-test.true (sym c.goes_now.ensures ∙ c.if-goes_now.false) c.loop-i.invariant

pub returns : goal.returns
returns c =
    λ list marks.
    none_alone _ _ c.requires.0 _ _ _ _ c.requires.4 _ c.loop-i-test.false c.loop-i.invariant list marks
