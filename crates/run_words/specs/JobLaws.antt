-- Definitions of job_laws.
-- What the law depends on: words that differ only in their jobs.
pub mod Jobs
