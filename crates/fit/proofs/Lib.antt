pub mod ListedPairs
