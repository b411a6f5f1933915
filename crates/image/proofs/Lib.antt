pub mod Rules
pub mod Fits
pub mod Answers
