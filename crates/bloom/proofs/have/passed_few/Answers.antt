-- `bloom::have::passed_few` meets its contract: the haves from record i on decide what all of them do. Assumes nothing.
use mathlib.Core.Path.{refl, sym, ◌∙◌}
use Rattle.bloom.proofs.HaveLaws.{too_many, counting_starts, counting_fails, counting_on, counting_ends}
use Rattle.bloom.proofs.have.passed_few.Goals as goal

pub returns-then-total-gt-HAVES : goal.returns-then-total-gt-HAVES
returns-then-total-gt-HAVES c = sym (too_many _ c.if-total-gt-HAVES.true)

pub loop-i-init : goal.loop-i-init
loop-i-init c = counting_starts _ _ refl c.if-total-gt-HAVES.false

pub returns-then-sync_count-gt-HASHES : goal.returns-then-sync_count-gt-HASHES
returns-then-sync_count-gt-HASHES c =
    sym (counting_fails _ _ _ c.loop-i-test.true _ c.sync_count.ensures c.if-sync_count-gt-HASHES.true) ∙ c.loop-i.invariant

pub loop-i-preserved : goal.loop-i-preserved
loop-i-preserved c =
    sym (counting_on _ _ _ c.loop-i-test.true _ c.sync_count.ensures c.if-sync_count-gt-HASHES.false) ∙ c.loop-i.invariant

pub returns : goal.returns
returns c = sym (counting_ends _ _ _ c.loop-i-test.false) ∙ c.loop-i.invariant
