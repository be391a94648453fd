pub mod Entered
pub mod Exports
pub mod Foreign
pub mod Owned
pub mod Parts
pub mod Settings
pub mod Timers
pub mod Trees
