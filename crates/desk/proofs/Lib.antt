pub mod Entries
pub mod Telling
pub mod Steps
pub mod Works
pub mod New
