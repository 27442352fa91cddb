-- `hash_refs::refs::ref_before` meets its contract: a number below `entries` is of the list, any other of the further bytes. Assumes nothing.
use Rattle.hash_refs.proofs.RefLaws.{of_list, of_further}
use Rattle.hash_refs.proofs.refs.ref_before.Goals as goal

pub returns-then-number-entries : goal.returns-then-number-entries
returns-then-number-entries c = rw (of_list _ _ _ _ _ c.if-number-entries.true) c.hash_before.ensures

pub returns : goal.returns
returns c = rw (of_further _ _ _ _ _ c.if-number-entries.false) c.hash_before-2.ensures
