-- Lemmas of run_laws.
pub mod Unique
pub mod OnePath
pub mod FilesWhy
pub mod ReadyFiles
pub mod Why
pub mod Ways
pub mod Checked
pub mod Caused
