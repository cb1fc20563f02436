pub mod Pick
pub mod View
pub mod Refusal
pub mod Bytes
pub mod Ranges
pub mod Lent
pub mod Made
