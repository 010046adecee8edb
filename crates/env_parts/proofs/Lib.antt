pub mod PartLemmas
pub mod RisingLemmas
pub mod EnvOrder
pub mod PlaceLemmas
mod Examples
