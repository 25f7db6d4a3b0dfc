pub mod Lists
pub mod Requests
pub mod Reading
pub mod Examples
pub mod Claims
