pub mod Waiting
pub mod WaitingBytes
pub mod WaitingCalls
