pub mod Limits
pub mod Faults
pub mod Bytes
pub mod Lines
