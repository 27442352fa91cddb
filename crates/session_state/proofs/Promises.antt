-- What is promised of this crate and cited nowhere in it or above: a law that stands here can't be taken out or renamed unseen.
pub use Rattle.session_state.proofs.SessionLaws.{switch_twice, fresh_switched_on}
pub use Rattle.session_state.proofs.ValueLaws.{hashes_absent, hashes_there, haves_absent, haves_there_lem, fresh_value, fresh_read_only_value, set_read_only_value, value_once}
