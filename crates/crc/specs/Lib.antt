pub mod Crc
pub mod Crc5
pub mod Cases
