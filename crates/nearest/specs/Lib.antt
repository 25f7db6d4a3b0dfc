pub mod Nearest
pub mod Claims
pub mod Examples
