-- What the law rests on: plus code whose metavariables have terms.
pub mod Instantiated
-- What term_laws defines.
pub mod TermLaws
-- What scope_laws defines.
pub mod ScopeLaws
-- What aligned_laws defines.
pub mod AlignedLaws
-- What touch_laws defines.
pub mod TouchLaws
