pub mod Pages
pub mod Judging
