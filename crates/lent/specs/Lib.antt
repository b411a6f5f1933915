pub mod Lent
pub mod Wrong
