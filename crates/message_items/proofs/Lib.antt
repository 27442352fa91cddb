pub mod IgnoredLaws
pub mod ItemLaws
pub mod Meaning
pub mod RoundTrip
pub mod Words
