-- A layer: what is seen of it, the rows of each call, and calls on a layer by itself.
pub mod CloseRetrace
pub mod Turns
pub mod Block
pub mod Heads
pub mod Plan
pub mod Drawn
pub mod Layers
pub mod Bare
