-- Environments whose values are places, or terms of tokens of C.
use Rattle.rule_envs.specs.declared.file_env.FileEnv.{FileEnv}
use Rattle.text_laws.specs.Sound.{HaveCValues}

-- each value of the environment is a place, or a term of tokens of C that are no Strays
abbrev pub CarriesTerms : FileEnv → Type 0
CarriesTerms c = HaveCValues c.env
