pub mod Checks
pub mod Reach
pub mod Refused
pub mod Worked
pub mod Steps
