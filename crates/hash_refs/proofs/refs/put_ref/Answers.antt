-- `hash_refs::refs::put_ref` meets its contract: a number below `entries` is of the list, any other of the further bytes, and a hash's bytes are those
-- where it stands. Assumes nothing.
use Rattle.hash_refs.proofs.RefLaws.{bytes_of_list, bytes_of_further}
use Rattle.hash_refs.proofs.refs.put_ref.Goals as goal

pub returns-then-number-entries : goal.returns-then-number-entries
returns-then-number-entries c =
    rw (bytes_of_list _ _ _ _ _ c.if-number-entries.true (λ k. (c.type_inv.list k).fits) c.requires.0) c.put_hash.ensures

pub returns : goal.returns
returns c =
    rw (bytes_of_further _ _ _ _ _ c.if-number-entries.false c.requires.1 (λ k. (c.type_inv.further k).fits)) c.put_hash-2.ensures
