-- The definitions that a caller of `run` needs, to state in its own clauses what a run does.
pub use Rattle.run_acts.specs.Acts.{observed}
pub use Rattle.run_acts.specs.Breaks.{counts}
pub use Rattle.run_files.specs.RunStages.Promise.{IsExact, EndsRightly}
