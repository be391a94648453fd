pub mod Cut
pub mod Decoded
pub mod Reading
pub mod Token
pub mod Xml
