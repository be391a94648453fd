pub mod Outputs
pub mod Writers
