pub mod Filter
pub mod FilterIgnored
pub mod FilterMeans
pub mod FilterRead
pub mod Have
