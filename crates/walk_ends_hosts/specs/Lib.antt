pub mod CallsEnds
pub mod NewsAtBothEnds
