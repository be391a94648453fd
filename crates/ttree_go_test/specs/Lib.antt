pub mod Names
pub mod Texts
pub mod GoTest
pub mod Failed
pub mod Failures
pub mod Printed
pub mod Nesting
pub mod Closing
