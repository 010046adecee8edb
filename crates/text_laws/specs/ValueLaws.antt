-- Definitions of value_laws. What the law rests on: environments whose values consist of tokens of C.
pub mod Carried
