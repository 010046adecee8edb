-- Definitions of smpl_sound.
-- What public contracts rest on: what each rule passes.
pub mod Parts
