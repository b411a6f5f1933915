pub mod Spans
pub mod Searches
pub mod Masks
pub mod Banks
