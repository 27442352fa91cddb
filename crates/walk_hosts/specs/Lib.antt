pub mod Calls
pub mod CallContracts
pub mod Demand
pub mod Memory
pub mod States
