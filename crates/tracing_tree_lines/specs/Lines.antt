-- The program's lines.
pub mod Spelled
pub mod Values
pub mod Runs
pub mod Reads
pub mod Inputs
pub mod Steps
pub mod SoFar
pub mod CallKinds
pub mod Borrowed
pub mod FieldList
pub mod Parts
pub mod Taken
