pub mod Handed
pub mod Tests
