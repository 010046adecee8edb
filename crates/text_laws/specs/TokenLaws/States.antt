-- What the rules of a patch preserve.
use Rattle.std.specs.Prelude.{◌<◌, All}
use Rattle.c_lexer.specs.Lexes.{Cuts}
use Rattle.c_lexer.specs.Ids.{ids_of}
use Rattle.c_file.specs.Reads.{Reads}
use Rattle.rule_chain.specs.RuleRun.States.{Chained}
use Rattle.text_laws.specs.OutputLaws.Differ.{AllDiffer}
use Rattle.text_laws.specs.ValueLaws.Carried.{CarriesTerms}

-- A text is cut into the pieces, and the items are read from them. The ids of their tokens differ, and are below the next
-- one. The values of environments are places, or terms of tokens of C that are no Strays.
pub record IsSoundState (s : Chained) : Type 0 where
  pub cuts : Cuts s.pieces
  pub reads : Reads s.pieces s.items
  pub differ : AllDiffer (ids_of s.pieces)
  pub below : All (λ id. id < s.page.next) (ids_of s.pieces)
  pub carried : All CarriesTerms s.file_envs
