-- Lemmas of item_graphs.
pub mod TreeLemmas
pub mod GraphLemmas
pub mod PoolLemmas
pub mod ReachLemmas
