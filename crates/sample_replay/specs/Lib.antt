pub mod Kind
pub mod Record
pub mod SampleWalk
pub mod SampleWords
