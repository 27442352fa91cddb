-- What is promised of this crate and cited nowhere in it or above: a law that stands here can't be taken out or renamed unseen.
pub use Rattle.table.proofs.ExtendLaws.{held_append, deps_stay, good_append}
pub use Rattle.table.proofs.GoodLaws.{good_differ, rows_hashes, rows_few}
pub use Rattle.table.proofs.TableLaws.{rows_at_index, length_table, deps_of_table, hash_of_table, take_table, good_accepted, decoded_hash, decoded_count, decoded_dep, decoded_below, decoded_prefix}
