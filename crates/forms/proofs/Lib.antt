pub mod Level
pub mod Form
pub mod Energy
pub mod Distance
