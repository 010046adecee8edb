-- Definitions of run_lines.
-- The lines on the error output, names on the output, and the summary of a generated text.
pub mod Further
pub mod Words
pub mod Names
pub mod Notes
pub mod Patches
pub mod Files
pub mod Summary
