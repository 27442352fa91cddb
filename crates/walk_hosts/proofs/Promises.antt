-- What is promised of this crate: a law that stands here can't be taken out or renamed unseen.
pub use Rattle.walk_hosts.proofs.Demand.{demand}
pub use Rattle.walk_hosts.proofs.Example.{calls_example, contracts_example}
