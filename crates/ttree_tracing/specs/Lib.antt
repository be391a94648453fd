pub mod TracingLine
pub mod Tracing
