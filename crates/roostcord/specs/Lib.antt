pub mod Word
pub mod Numbers
pub mod Chosen
pub mod State
pub mod Parts
