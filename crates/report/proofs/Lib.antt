pub mod Form
pub mod Turns
pub mod Stated
pub mod Trip
pub mod Behind
pub mod Fits
pub mod Loaded
pub mod Once
