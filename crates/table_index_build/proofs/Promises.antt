-- What is promised of this crate and cited nowhere in it or above: a law that stands here can't be taken out or renamed unseen.
pub use Rattle.table_index_build.proofs.BuildLaws.{built_fits, built_bytes, built_accepted, extended_is_built, built_extends}
