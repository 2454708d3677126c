pub mod Boards
pub mod Verdicts
pub mod Turns
