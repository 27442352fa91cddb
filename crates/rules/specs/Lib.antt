pub mod Hash
pub mod LittleEndian
pub mod Output
pub mod Passed
pub mod Refusal
pub mod Sizes
pub mod Zeros
