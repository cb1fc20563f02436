pub mod Few
pub mod Reach
pub mod Widths
pub mod Worked
pub mod Once
