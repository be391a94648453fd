pub mod Groups
pub mod LogFields
pub mod LogTime
pub mod LogLine
pub mod Logs
