-- What the laws rest on: the rule on types in calls' lists, as a condition that refers to itself.
pub mod Rule
