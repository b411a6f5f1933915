pub mod Rights
pub mod Steps
pub mod Cases
