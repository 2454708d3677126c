pub mod Pairs
pub mod Edits
pub mod Makes
pub mod Missing
