-- `receive_haves::haves::put_record` meets its contract: seven words one after the other. Assumes nothing.
use native.Mathlib.Omega.{arith}
use lib.ListN.{length-set}
use Rattle.receive_haves.proofs.HaveLaws.{record-put}
use Rattle.receive_haves.proofs.haves.put_record.Goals as goal

pub bounds-records-k-2 : goal.bounds-records-k-2
bounds-records-k-2 c = simp length-set (omega (arith, c.requires.2))

pub bounds-records-k-3 : goal.bounds-records-k-3
bounds-records-k-3 c = simp length-set (omega (arith, c.requires.2))

pub bounds-records-k-4 : goal.bounds-records-k-4
bounds-records-k-4 c = simp length-set (omega (arith, c.requires.2))

pub bounds-records-k-5 : goal.bounds-records-k-5
bounds-records-k-5 c = simp length-set (omega (arith, c.requires.2))

pub bounds-records-k-6 : goal.bounds-records-k-6
bounds-records-k-6 c = simp length-set (omega (arith, c.requires.2))

pub bounds-records-k-7 : goal.bounds-records-k-7
bounds-records-k-7 c = simp length-set (omega (arith, c.requires.2))

pub shape_of-records : goal.shape_of-records
shape_of-records c = simp length-set

pub returns : goal.returns
returns c = record-put _ _ _ _ _ _ c.sync_count-count.ensures c.filter_in-filter.ensures _
