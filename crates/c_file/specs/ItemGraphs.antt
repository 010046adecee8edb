-- Definitions of item_graphs.
-- What the contracts depend on, in reading order.
pub mod Trees
pub mod Typed
pub mod Pool
pub mod Made
