-- Lemmas of smpl_all_sound.
pub mod StepLemmas
pub mod CutLemmas
pub mod LineLemmas
pub mod PatchLemmas
