pub mod Promises
pub mod PutLaws
pub mod RoundTrip
pub mod SoundLaws
