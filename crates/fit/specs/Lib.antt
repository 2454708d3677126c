pub mod Times
pub mod Fitting
