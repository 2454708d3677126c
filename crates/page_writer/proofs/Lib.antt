pub mod Digits
pub mod Places
pub mod Back
pub mod Trip
pub mod PlanBack
pub mod TableBack
