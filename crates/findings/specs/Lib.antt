pub mod Same
pub mod Hold
pub mod Lent
pub mod Adding
