-- What the contracts depend on, in reading order.
pub mod Depends
pub mod Inherited
pub mod Shares
pub mod FileEnvs
pub mod Places
-- What rule_formulas defines.
pub mod RuleFormulas
