pub mod RuleTests
pub mod Weeks
pub mod Cases
