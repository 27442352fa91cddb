-- What is promised of this crate and cited nowhere in it or above: a law that stands here can't be taken out or renamed unseen.
pub use Rattle.table_graph.proofs.BelowLaws.{row_induction, below_equation, below_stays, beyond_held, beyond_upward, beyond_hashes, beyond_few}
pub use Rattle.table_graph.proofs.HeadLaws.{heads_ascend, heads_hashes, head_last, rows_below_heads}
