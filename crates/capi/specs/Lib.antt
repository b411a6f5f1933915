pub mod Told
pub mod Depot
pub mod Steps
pub mod Laws
pub mod Wrong
pub mod Astray
