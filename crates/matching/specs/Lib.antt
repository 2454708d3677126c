pub mod Board
pub mod Certificate
pub mod Check
pub mod Lists
