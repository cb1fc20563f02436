pub mod Times
pub mod Module
pub mod Parts
