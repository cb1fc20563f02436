pub mod Fields
pub mod Listing
pub mod Least
pub mod Reach
pub mod Refused
pub mod Named
pub mod Parts
pub mod Read
