pub mod Item
