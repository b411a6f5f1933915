pub mod Runs
pub mod Pairs
pub mod Changes
pub mod Sane
pub mod Mixed
pub mod Cuts
