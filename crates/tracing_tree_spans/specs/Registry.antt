-- The live spans.
pub mod Ids
pub mod Spans
pub mod Forest
pub mod Lookup
pub mod Paths
pub mod Registered
pub mod Nodes
pub mod Slots
pub mod Branches
