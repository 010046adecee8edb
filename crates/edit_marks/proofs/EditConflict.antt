-- Lemmas of edit_conflict.
pub mod Distinct
pub mod Numbers
pub mod Members
pub mod Ordered
pub mod Meets
pub mod Scans
pub mod Steps
pub mod Examples
