pub mod PlaceLaws
pub mod ShapeLaws
pub mod CallLaws
