-- What the contracts depend on, in reading order: the parts of a command line, its options by name, their values, and what
-- words ask for.
pub mod Parts
pub mod Options
pub mod Values
pub mod Orders
-- Why words are no command.
pub mod OptionNames
pub mod Faults
-- What results represent, for callers and for internal use.
pub mod Shown
pub mod Forms
-- For internal use: the command as clap represents it.
pub mod Commands
-- What job_laws, flag_laws and unread_laws define.
pub mod JobLaws
pub mod FlagLaws
pub mod UnreadLaws
