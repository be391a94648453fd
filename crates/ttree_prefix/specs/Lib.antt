pub mod Blank
pub mod Color
pub mod Mark
pub mod Prefix
pub mod Streams
