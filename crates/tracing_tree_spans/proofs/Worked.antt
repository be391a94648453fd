-- Examples computed from the definitions.
pub mod Paths
pub mod Forests
