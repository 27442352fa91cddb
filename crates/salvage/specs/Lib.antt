pub mod Internal
pub mod Salvaged
