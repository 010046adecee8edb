-- What public contracts rest on, in reading order: variables, values, environments.
pub mod Vars
pub mod Values
pub mod Environments
-- For internal use: the items of a list that copies share.
pub mod Lists
