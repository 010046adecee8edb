-- The run of a patch's rules over a file, one after another.
use Rattle.std.specs.Prelude.{ℕ, ◌≡◌, ◌⊎◌, suc, Bool, true, false, List, [], ◌∷◌}
use Rattle.smpl_patch.specs.declared.rule.Rule.{Rule}
use Rattle.c_lexer.specs.Pieces.{TextPiece}
use Rattle.c_lexer.specs.Lexes.{Lexes}
use Rattle.cpp_lines.specs.declared.reading.Item.{Item}
use Rattle.c_file.specs.Reads.{Reads}
use Rattle.rule_chain.specs.declared.rule_run.fault.FileFault.{FileFault}
use Rattle.rule_chain.specs.RuleRun.States.{Chained, first_state}
use Rattle.rule_chain.specs.RuleRun.Tidied.{IsFaultBy, LeadsBy}

-- how the chain ends: with its last state, or at the first fault
pub data Outcome : Type 0 where
  Done : (s : Chained) → Outcome
  Refused : (fault : FileFault) → Outcome

-- some rule is left
abbrev pub is_followed : List Rule → Bool
is_followed [] = false
is_followed (rule ∷ rules) = true

-- the rules, numbered from here, lead from a state to this end, plain or tidied
abbrev pub Runs : (tidy : Bool) → List (List ℕ) → ℕ → List Rule → Chained → Outcome → Type 0
Runs tidy defined number [] s end = end ≡ Done s
Runs tidy defined number (rule ∷ rules) s end =
    ((fault : FileFault) × (IsFaultBy tidy defined number rule s fault × (end ≡ Refused fault)))
    ⊎ ((next : Chained) × (LeadsBy tidy defined number rule (is_followed rules) s next
    × Runs tidy defined (suc number) rules next end))

-- the chain of these rules over a text ends in this way, where the text is left plain or tidied
pub record Chain (tidy : Bool) (rules : List Rule) (defined : List (List ℕ)) (bytes : List ℕ) (end : Outcome) : Type 0 where
  pub pieces : List TextPiece
  pub cut : Lexes bytes pieces
  pub items : List Item
  pub reads : Reads pieces items
  pub runs : Runs tidy defined 0 rules (first_state pieces reads.0 items) end
