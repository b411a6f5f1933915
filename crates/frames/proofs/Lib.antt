pub mod Pointers
pub mod Codes
pub mod Laws
pub mod Ones
pub mod Orders
