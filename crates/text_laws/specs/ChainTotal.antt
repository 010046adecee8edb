-- Definitions of chain_total. What the laws rest on: that something can't be absent.
pub mod Weakly
