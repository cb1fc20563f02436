pub mod Codes
pub mod Identity
pub mod Cas
pub mod Timing
pub mod Clocks
