pub mod Message
pub mod Frames
pub mod Steps
pub mod Cases
