pub mod Bits16
pub mod Pairs
pub mod Layers
pub mod Tariffs
