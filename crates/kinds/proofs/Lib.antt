pub mod SearchLaws
pub mod RoundLaws
pub mod RunLaws
