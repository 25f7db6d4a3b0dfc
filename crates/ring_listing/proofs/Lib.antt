pub mod Examples
pub mod TextLaws
pub mod ListingLaws
