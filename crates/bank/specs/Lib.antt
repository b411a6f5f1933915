pub mod Views
pub mod Shows
pub mod Wrong
