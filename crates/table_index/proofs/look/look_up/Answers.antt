-- `table_index::look::look_up` meets its contract: change rows are records that begin with their hash (HalveLaws). Assumes nothing.
use native.Mathlib.Omega.{arith}
use Rattle.table_index.proofs.HalveLaws.{fit_records, rows_are_records}
use Rattle.table_index.proofs.look.look_up.Goals as goal

pub find_by-requires : goal.find_by-requires
find_by-requires c =
    let p = c.requires in
    (p.0.rows.inside, omega arith, p.0.entries, p.1, fit_records _ _ _ p.0.fit)

pub returns : goal.returns
returns c = rw rows_are_records c.find_by.ensures
