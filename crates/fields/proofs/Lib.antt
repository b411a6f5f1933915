pub mod Behind
pub mod Sealing
