-- The rule that the run of a patch over a text reaches, and the state before it.
use Rattle.std.specs.Prelude.{ℕ, suc, List, ◌∷◌}
use Rattle.c_lexer.specs.Pieces.{TextPiece}
use Rattle.c_lexer.specs.Lexes.{Lexes}
use Rattle.cpp_lines.specs.declared.reading.Item.{Item}
use Rattle.c_file.specs.Reads.{Reads}
use Rattle.smpl_patch.specs.declared.rule.Rule.{Rule}
use Rattle.rule_chain.specs.RuleRun.States.{Chained, first_state}
use Rattle.rule_chain.specs.RuleRun.OneRule.{Leads}
use Rattle.rule_chain.specs.Chain.{is_followed}

-- The run has reached this state, and these rules are left, the first of which has this number.
pub data IsBefore (defined : List (List ℕ)) (rules : List Rule) (text : List ℕ) : ℕ → List Rule → Chained → Type 0 where
  -- before the first rule the text is cut and read
  first : (pieces : List TextPiece) (items : List Item) → Lexes text pieces → (reads : Reads pieces items)
      → IsBefore defined rules text 0 rules (first_state pieces reads.0 items)
  -- a rule leads to the next state
  later : (number : ℕ) (rule : Rule) (rest : List Rule) (s next : Chained) → IsBefore defined rules text number (rule ∷ rest) s
      → Leads defined number rule (is_followed rest) s next → IsBefore defined rules text (suc number) rest next
