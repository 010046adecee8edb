-- Definitions of touch_laws. What the law rests on: environments that give metavariables only terms, and touches at which
-- they have terms.
pub mod Metas
