pub mod PlaceLaws
pub mod UnspelledLemmas
pub mod CodeLemmas
pub mod Examples
