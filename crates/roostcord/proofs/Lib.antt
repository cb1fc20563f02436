pub mod Answers
pub mod Reports
pub mod Tied
pub mod Once
pub mod Rate
pub mod Bits
pub mod Small
pub mod BlockNumbers
