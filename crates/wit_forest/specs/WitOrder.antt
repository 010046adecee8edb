-- Definitions of wit_order.
-- The modules that public contracts rest on, in reading order.
-- when two trees of witnesses are the same
pub mod Same
-- their order
pub mod Order
-- forests: trees in order, each once
pub mod Forests
-- how large they are
pub mod Sizes
