pub mod BodyLemmas
pub mod DotsLemmas
pub mod RoomLemmas
pub mod RuleLemmas
pub mod ShapeLemmas
pub mod IsoForms
