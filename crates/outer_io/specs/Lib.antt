-- What public contracts rest on, in reading order: contents, counts of faults, calls that fail, streams and real files.
pub mod Files
pub mod Faults
pub mod Calls
pub mod Adapters
-- For internal use: how contents and calls are stored.
pub mod Stored
-- What escaped_names defines.
pub mod EscapedNames
