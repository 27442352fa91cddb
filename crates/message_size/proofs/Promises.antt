-- What is promised of this crate and cited nowhere in it or above: a law that stands here can't be taken out or renamed unseen.
pub use Rattle.message_size.proofs.WriteLaws.{accepted_written, refuses_haves, refuses_heads, refuses_need, refuses_many_haves, refuses_many_chunks, refuses_cut_chunk}
