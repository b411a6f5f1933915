pub mod Laws
pub mod Packing
pub mod Bytes
pub mod Pen
