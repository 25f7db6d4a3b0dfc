-- What the private functions of a pluck require and ensure. What the plucks themselves promise are `pluck` and `pluck_with` of crate
-- scheme.
pub mod Shapes
