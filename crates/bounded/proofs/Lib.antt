pub mod Size
pub mod Num
pub mod Expr
