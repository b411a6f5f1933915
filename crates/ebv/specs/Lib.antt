pub mod Ebv
pub mod Cases
