pub mod ExactLaws
pub mod FieldLaws
pub mod HeaderLaws
pub mod MatchLaws
pub mod WireLaws
