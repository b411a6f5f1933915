pub mod Obeyed
pub mod Answered
pub mod Talks
