-- `receive_decide::put::put_laid` meets its contract. Assumes nothing.
use native.Mathlib.Omega.{arith}
use lib.ListN.{length-take}
use Rattle.receive_decide.proofs.PutLaws.{laid_fits}
use Rattle.receive_decide.proofs.put.put_laid.Goals as goal

pub slice_bounds-lay_haves-end : goal.slice_bounds-lay_haves-end
slice_bounds-lay_haves-end c =
    simp length-take (omega (arith, c.requires.there))

pub lay_haves-requires : goal.lay_haves-requires
lay_haves-requires c =
    laid_fits _ _ _ _ _ c.requires
