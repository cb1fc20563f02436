pub mod Form
pub mod Table
pub mod Write
pub mod Read
pub mod Body
