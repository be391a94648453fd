-- Examples computed from the definitions.
pub mod Rows
pub mod Drawing
pub mod Closing
pub mod Retraces
pub mod Bare
pub mod Difference
