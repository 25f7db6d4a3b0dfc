pub mod LevelLaws
pub mod LineLaws
pub mod SignLaws
pub mod RoundRowLaws
