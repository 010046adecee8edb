-- What the public contracts rest on, in reading order: bodies with all forms, rules and patches with all forms.
pub mod Bodies
pub mod Patches
-- Internal: what the parts return.
pub mod Stepped
-- The definitions of iso_forms.
pub mod IsoForms
