pub mod Soundness
pub mod Checks
pub mod Agreement
pub mod Lists
