pub mod Compare
pub mod Highest
