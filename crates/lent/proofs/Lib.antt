pub mod Lent
pub mod Thin
