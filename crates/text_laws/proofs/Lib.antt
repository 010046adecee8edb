-- Lemmas: ids of pages, tokens that forms are aligned with, numbers of tokens that are apart, edits that keep Strays, plus
-- code at touches, fair edits, the new text cut again.
pub mod PageIds
pub mod Aligned
pub mod Places
pub mod Strays
pub mod Touched
pub mod FairEdits
pub mod BareCount
pub mod Again
pub mod SoundTouches
pub mod OutputLaws
pub mod ReadingLaws
pub mod ValueLaws
pub mod PlusLaws
pub mod TokenLaws
pub mod AgainLaws
pub mod ChainTotal
