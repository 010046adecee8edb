mod Induct
mod RowLemmas
mod TouchLemmas
mod CountLemmas
mod EndLemmas
pub mod Examples
