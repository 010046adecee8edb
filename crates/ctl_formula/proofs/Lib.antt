pub mod TableLemmas
pub mod CountLemmas
pub mod FrontLemmas
pub mod Crossing
