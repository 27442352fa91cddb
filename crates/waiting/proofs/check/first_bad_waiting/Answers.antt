-- `waiting::check::first_bad_waiting` meets its contract: the first bad one of the waiting rows from i on is that of all, until row i is bad or no row is
-- left, and the rows before row i stand in order. Assumes nothing.
use mathlib.Core.Path.{sym, ◌∙◌}
use native.Mathlib.Nat.{not-suc-le-zero}
use native.Mathlib.Omega.{arith}
use Rattle.table_index_build.proofs.ExtendLaws.{index_none}
use Rattle.table.proofs.CheckLaws.{test_starts, test_fails, test_on, test_ends}
use Rattle.waiting.proofs.FindLaws.{good_next, good_sorted, all_sorted}
use Rattle.waiting.proofs.check.first_bad_waiting.Goals as goal

pub loop-i-init : goal.loop-i-init
loop-i-init c =
    record { each = λ j b. absurd (not-suc-le-zero b); sorted = index_none _ _; rest = test_starts _ _ }

pub waiting_good-requires : goal.waiting_good-requires
waiting_good-requires c =
    (c.requires.0, omega arith, good_sorted _ _ _ _ c.loop-i.invariant.each c.loop-i.invariant.sorted (omega arith) (omega arith))

pub returns-then-not-waiting_good : goal.returns-then-not-waiting_good
returns-then-not-waiting_good c =
    record {
      is = sym (test_fails _ _ _ c.loop-i-test.true (sym c.waiting_good.ensures ∙ c.if-not-waiting_good.true)) ∙ c.loop-i.invariant.rest;
      sorted = λ h. absurd (omega arith);
    }

pub loop-i-preserved : goal.loop-i-preserved
loop-i-preserved c =
    let here = sym c.waiting_good.ensures ∙ c.if-not-waiting_good.false in
    record {
      each = good_next _ _ _ c.loop-i.invariant.each here;
      sorted = c.extend.ensures;
      rest = sym (test_on _ _ _ c.loop-i-test.true here) ∙ c.loop-i.invariant.rest;
    }

pub returns : goal.returns
returns c =
    record {
      is = sym (test_ends _ _ _ c.loop-i.auto.i-end c.loop-i-test.false) ∙ c.loop-i.invariant.rest;
      sorted = λ h. all_sorted _ _ _ _ _ c.loop-i.auto.i-end c.loop-i-test.false c.loop-i.invariant.each c.loop-i.invariant.sorted c.requires.1 (omega arith);
    }
