pub mod Words
pub mod Bits
pub mod Below
pub mod First
pub mod Steps
