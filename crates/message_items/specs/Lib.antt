pub mod ItemMeans
pub mod Items
pub mod ItemsIgnored
