-- What the functions of this crate promise, beside the definitions of the crate scheme.
pub mod Rounding
