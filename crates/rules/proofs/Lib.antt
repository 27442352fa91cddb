pub mod ByteLaws
pub mod Cases
pub mod Hash
pub mod Outputs
pub mod PassedLaws
pub mod Promises
pub mod Refusals
pub mod ZeroLaws
