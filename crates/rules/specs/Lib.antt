pub mod Table
pub mod Regions
pub mod Rules
pub mod Lint
pub mod Lanes
pub mod Bench
pub mod Scan
pub mod Parts
