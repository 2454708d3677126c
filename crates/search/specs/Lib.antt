pub mod Scene
pub mod Views
pub mod Search
pub mod Paths
pub mod Changes
pub mod Outcomes
