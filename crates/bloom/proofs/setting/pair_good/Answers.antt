-- `bloom::setting::pair_good` meets its contract: one law for each test that decides. Assumes nothing.
use mathlib.Core.Path.{sym}
use native.Mathlib.Omega.{arith}
use Rattle.bloom.proofs.Rules.{pair_none, pair_many, pair_by_probes}
use Rattle.bloom.proofs.setting.pair_good.Goals as goal

pub returns-then-bits-eq0 : goal.returns-then-bits-eq0
returns-then-bits-eq0 c = sym (pair_none _ _ c.if-bits-eq0.true)

pub returns-then-bits-gt-MOST_BITS : goal.returns-then-bits-gt-MOST_BITS
returns-then-bits-gt-MOST_BITS c = sym (pair_many _ _ (omega (arith, c)) c.if-bits-gt-MOST_BITS.true)

pub returns : goal.returns
returns c = sym (pair_by_probes _ _ (omega (arith, c)) c.if-bits-gt-MOST_BITS.false)
