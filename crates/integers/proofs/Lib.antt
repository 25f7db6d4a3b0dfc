pub mod Laws
pub mod Ring
pub mod Order
pub mod Lin
pub mod Sum
pub mod Size
