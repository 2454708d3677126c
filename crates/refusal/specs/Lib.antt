pub mod Limits
pub mod Counting
pub mod Tables
pub mod Refusals
