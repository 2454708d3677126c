pub mod Making
pub mod Questions
pub mod Ranges
pub mod Layers
pub mod Missing
pub mod Places
