-- Lemmas of edit_laws.
-- They cover alignments under environments that agree, values without ids, edits of witnesses without ids, and fair inserts.
pub mod AlignLemmas
pub mod ValueLemmas
pub mod BareEdits
pub mod BareTidyEdits
pub mod FairLemmas
