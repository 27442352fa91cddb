-- What is promised of this crate and cited nowhere in it or above: a law that stands here can't be taken out or renamed unseen.
pub use Rattle.table_index.proofs.AscendLaws.{ascend_by_index}
pub use Rattle.table_index.proofs.CheckLaws.{checked_table, checked_fits, checked_indexed}
pub use Rattle.table_index.proofs.LookLaws.{good_fits, fits_is_index, fits_names_each_once, hash_once, looked_up_is_scanned, fits_exactly}
