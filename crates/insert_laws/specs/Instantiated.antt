-- Touches at which each metavariable of the inserted plus code has a term.
use Rattle.std.specs.Prelude.{◌≡◌, Bool, true, false, List, [], ◌∷◌, Option, None, Some, All}
use Rattle.c_terms.specs.declared.token.Token.{Token}
use Rattle.c_terms.specs.declared.tree.Tree.{Tree}
use Rattle.c_lexer.specs.Pieces.{TextPiece}
use Rattle.c_lexer.specs.Ids.{ids_of}
use Rattle.cpp_lines.specs.declared.reading.Item.{Item}
use Rattle.smpl_patch.specs.declared.pattern.VarDecl.{VarDecl}
use Rattle.smpl_patch.specs.declared.pattern.PlusLine.{PlusLine}
use Rattle.smpl_patch.specs.declared.pattern.PlusBlock.{PlusBlock}
use Rattle.smpl_patch.specs.declared.rule.Rule.{Rule}
use Rattle.smpl_patch.specs.Bodies.{body}
use Rattle.smpl_patch.specs.Shapes.{patterns_body}
use Rattle.edit_marks.specs.Blocks.{Environment, is_meta, term}
use Rattle.edit_marks.specs.Spots.{all_spots}
use Rattle.edit_marks.specs.Edits.{block_of}
use Rattle.edit_marks.specs.EditWalk.Touches.{Touched}
use Rattle.edit_marks.specs.EditWalk.Named.{pairs_at}
use Rattle.rule_chain.specs.RuleEdits.Nodes.{nodes_of}

module _ (decls : List VarDecl) (env : Environment) where
  -- a metavariable has a value, and it is a term
  abbrev pub IsInstantiatedToken : Bool → Token → Type 0
  IsInstantiatedToken true t = (u : Tree) × (term decls env t.text ≡ Some u)
  IsInstantiatedToken false t = Unit {0}

  abbrev pub AreInstantiatedTokens : List Token → Type 0
  AreInstantiatedTokens [] = Unit {0}
  AreInstantiatedTokens (t ∷ tokens) = IsInstantiatedToken (is_meta t.kind) t × AreInstantiatedTokens tokens

  abbrev pub AreInstantiatedLines : List PlusLine → Type 0
  AreInstantiatedLines [] = Unit {0}
  AreInstantiatedLines (line ∷ lines) = AreInstantiatedTokens line.tokens × AreInstantiatedLines lines

  -- each metavariable of the block, if there is one, has a value, and it is a term
  abbrev pub IsInstantiatedBlock : Option PlusBlock → Type 0
  IsInstantiatedBlock None = Unit {0}
  IsInstantiatedBlock (Some block) = AreInstantiatedLines block.lines

-- At each place where the edit of the touch inserts plus code, each metavariable of that code has a value at the touch, and
-- it is a term.
abbrev pub IsInstantiated : Rule → List Item → List TextPiece → Touched → Type 0
IsInstantiated rule items pieces t =
    All (λ s. IsInstantiatedBlock rule.vars t.env (block_of rule.tokens s)) (all_spots rule.tokens
    (pairs_at (patterns_body (body rule.body)) rule.vars rule.tokens items (nodes_of rule items) (ids_of pieces) t))
