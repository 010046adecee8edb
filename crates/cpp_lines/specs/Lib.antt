-- What contracts depend on: what lines do to groups, which tokens are shown, and where items end.
pub mod Directives
pub mod Groups
pub mod Signs
pub mod Shown
pub mod Visible
pub mod Items
-- For internal use: the words of a line, the groups that are open, and what is known of an item.
pub mod Words
pub mod Masks
pub mod Rising
pub mod Frames
pub mod SoFar
