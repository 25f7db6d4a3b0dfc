pub mod DecimalLaws
pub mod SignedLaws
pub mod ParseLaws
