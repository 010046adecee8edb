-- Proofs of unread_laws.
-- Words with another choice ask for the same, but for it.
pub mod ChoiceLemmas
