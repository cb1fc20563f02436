pub mod Exact
pub mod Rows
