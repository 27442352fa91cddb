-- `hash_refs::refs::ref_same` meets its contract: a number below `entries` is of the list, any other of the further bytes. Assumes nothing.
use Rattle.hash_refs.proofs.RefLaws.{of_list, of_further}
use Rattle.hash_refs.proofs.refs.ref_same.Goals as goal

pub returns-then-number-entries : goal.returns-then-number-entries
returns-then-number-entries c = rw (of_list _ _ _ _ _ c.if-number-entries.true) c.same_hash.ensures

pub returns : goal.returns
returns c = rw (of_further _ _ _ _ _ c.if-number-entries.false) c.same_hash-2.ensures
