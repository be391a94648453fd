-- Examples computed from the definitions.
pub mod Readings
pub mod Lines
pub mod Laws
pub mod Json
