pub mod Extended
pub mod Style
pub mod Text
pub mod Field
pub mod Equal
