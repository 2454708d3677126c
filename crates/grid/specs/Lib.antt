pub mod GridPairs
