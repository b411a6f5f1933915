pub mod Xor
pub mod Linear
pub mod Steps
pub mod Runs
pub mod Tails
pub mod Divided
