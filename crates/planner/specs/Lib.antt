pub mod Pass
pub mod Run
pub mod Settling
