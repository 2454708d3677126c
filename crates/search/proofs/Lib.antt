pub mod Agreement
pub mod Asking
pub mod Counting
pub mod Shortest
pub mod Looking
pub mod Searching
pub mod Flipping
pub mod Parts
