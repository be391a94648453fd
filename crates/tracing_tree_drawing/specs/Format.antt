-- The drawing of a row: settings, strings, frames and pictures.
pub mod Settings
pub mod Texts
pub mod Picture
pub mod Buffers
pub mod Frames
