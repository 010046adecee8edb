-- Lemmas of job_laws.
-- Lemmas: what words with other jobs ask for.
pub mod JobLemmas
pub mod FaultLemmas
