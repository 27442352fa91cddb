-- What is promised of this crate and cited nowhere in it or above: a law that stands here can't be taken out or renamed unseen.
pub use Rattle.bloom.proofs.Rules.{setting_keeps, keeps_setting}
pub use Rattle.bloom.proofs.IgnoredLaws.{filter_forgotten, ignored_none}
