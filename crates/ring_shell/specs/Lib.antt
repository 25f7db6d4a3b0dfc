pub mod Answer
pub mod Written
pub mod Examples
pub mod Claims
pub mod Reading
