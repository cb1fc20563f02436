pub mod Fed
pub mod Run
