-- Definitions of wit_steps.
-- The modules that public contracts rest on, in reading order.
-- what a part of the formula at a node leads to
pub mod Steps
-- what it touches
pub mod Touches
-- which values a set assigns to a variable
pub mod Choices
