pub mod Stores
pub mod Cuts
pub mod Worked
pub mod Steps
