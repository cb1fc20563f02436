pub mod Trim
pub mod Reach
pub mod Refused
pub mod Worked
