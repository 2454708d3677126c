pub mod Stages
pub mod PairPages
pub mod TablePages
pub mod PageLaws
