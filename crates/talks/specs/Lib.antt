pub mod Talks
pub mod Worked
