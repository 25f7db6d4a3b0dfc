pub mod Examples
pub mod HalvesUp
pub mod Fields
pub mod Values
pub mod Product
