-- `hash_lists::compare::is_in` meets its contract: what the hashes from number k on decide is what all of them do. Assumes nothing.
use mathlib.Core.Path.{sym, ◌∙◌}
use Rattle.hash_lists.proofs.CompareLaws.{seek_starts, seek_here, seek_on, seek_ends}
use Rattle.hash_lists.proofs.compare.is_in.Goals as goal

pub loop-k-init : goal.loop-k-init
loop-k-init c = seek_starts _ _ _ _

pub returns-then-same_hash : goal.returns-then-same_hash
returns-then-same_hash c =
    sym (seek_here _ _ _ _ _ c.loop-k-test.true (sym c.same_hash.ensures ∙ c.if-same_hash.true)) ∙ c.loop-k.invariant

pub loop-k-preserved : goal.loop-k-preserved
loop-k-preserved c =
    sym (seek_on _ _ _ _ _ c.loop-k-test.true (sym c.same_hash.ensures ∙ c.if-same_hash.false)) ∙ c.loop-k.invariant

pub returns : goal.returns
returns c = sym (seek_ends _ _ _ _ _ c.loop-k-test.false) ∙ c.loop-k.invariant
