pub mod Ledger
pub mod Edits
pub mod Told
pub mod Moments
pub mod Runs
pub mod Desks
