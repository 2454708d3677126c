pub mod Steps
pub mod Laws
pub mod PairLaws
pub mod TableLaws
pub mod Kept
