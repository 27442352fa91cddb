pub mod MessageIgnored
pub mod MessageMeans
pub mod MessageRead
