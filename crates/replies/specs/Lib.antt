pub mod Pack
pub mod Replies
pub mod Steps
pub mod Cases
