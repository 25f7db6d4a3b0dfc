pub mod TurnLaws
pub mod NumberLaws
