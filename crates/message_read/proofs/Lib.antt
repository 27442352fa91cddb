pub mod IgnoredLaws
pub mod Meaning
pub mod Messages
pub mod Promises
pub mod ReadLaws
pub mod RefusalVectors
pub mod RoundTrip
