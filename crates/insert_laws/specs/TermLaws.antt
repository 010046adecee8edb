-- Definitions of term_laws.
-- What the laws rest on: values that are terms, variables that are no positions, and blocks whose variables are hidden.
pub mod Terms
