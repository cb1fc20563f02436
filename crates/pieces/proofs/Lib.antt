pub mod Laws
pub mod Accepting
pub mod Holding
pub mod Running
pub mod Asking
pub mod Once
