-- What the contracts of internal functions cite; no rule of 02 stands here.
pub mod PickMarks
