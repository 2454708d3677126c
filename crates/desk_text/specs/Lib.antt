pub mod Forms
pub mod Orders
pub mod Answers
pub mod Calls
