pub mod Layout
pub mod Content
pub mod Check
pub mod Rules
pub mod Steps
pub mod Worked
