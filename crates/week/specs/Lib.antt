pub mod Calls
pub mod Planned
pub mod Sheets
