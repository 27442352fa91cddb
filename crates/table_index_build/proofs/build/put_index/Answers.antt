-- `table_index_build::build::put_index` meets its contract: the bytes of the first entries are the index's first bytes (BuildLaws). Assumes nothing.
use lib.ListN.{length-take}
use Rattle.rules.proofs.Outputs.{written_bytes, no_room}
use Rattle.table_index_build.proofs.BuildLaws.{index_size, index_put}
use native.Mathlib.Omega.{arith}
use Rattle.table_index_build.proofs.build.put_index.Goals as goal

pub returns-then-out-size : goal.returns-then-out-size
returns-then-out-size c = no_room _ _ _ (index_size _ _) c.if-out-size.true

pub slice_bounds-copy_into-end : goal.slice_bounds-copy_into-end
slice_bounds-copy_into-end c = simp length-take (omega arith)

pub copy_into-requires : goal.copy_into-requires
copy_into-requires c = simp length-take (omega (arith, c.if-out-size.false))

pub returns : goal.returns
returns c =
    written_bytes _ _ _ _ (index_size _ _) c.if-out-size.false
    (index_put _ _ _ _ (λ k. (c.type_inv.index k).fits) c.requires c.copy_into.ensures)
