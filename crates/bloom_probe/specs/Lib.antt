pub mod Build
pub mod Contains
pub mod Inside
pub mod Internal
pub mod Probes
