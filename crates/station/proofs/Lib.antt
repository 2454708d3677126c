pub mod NewPile
