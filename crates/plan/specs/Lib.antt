pub mod Held
pub mod Parts
pub mod Counting
pub mod Filling
