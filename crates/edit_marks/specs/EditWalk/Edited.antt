-- The edits of witnesses: one for each touch, keeping the first of several equal ones.
use Rattle.std.specs.Prelude.{ℕ, ◌≡◌, List}
use Rattle.std.specs.List.{AllZip}
use Rattle.c_lexer.specs.Pieces.{TextPiece}
use Rattle.c_lexer.specs.Ids.{ids_of}
use Rattle.cpp_lines.specs.declared.reading.Item.{Item}
use Rattle.edit_marks.specs.declared.edit_walk.nodes.ItemNodes.{ItemNodes}
use Rattle.smpl_patch.specs.declared.pattern.VarDecl.{VarDecl}
use Rattle.smpl_patch.specs.declared.pattern.PatToken.{PatToken}
use Rattle.smpl_patch.specs.declared.pattern.Pattern.{Pattern}
use Rattle.smpl_patch.specs.declared.rule.Rule.{Rule}
use Rattle.smpl_patch.specs.declared.witness.RuleWitness.{RuleWitness}
use Rattle.smpl_patch.specs.Bodies.{body}
use Rattle.smpl_patch.specs.Shapes.{patterns_body}
use Rattle.edit_marks.specs.declared.edit_conflict.edit.Edit.{Edit}
use Rattle.edit_marks.specs.EditConflict.Once.{once}
use Rattle.edit_marks.specs.Edits.{EditOf}
use Rattle.edit_marks.specs.declared.file_tokens.FileToken.{FileToken}
use Rattle.edit_marks.specs.EditWalk.Touches.{Touched, touches}
use Rattle.edit_marks.specs.Tokens.{file_tokens}
use Rattle.edit_marks.specs.EditWalk.Named.{pairs_at}

-- The edit of a touch: that of the alignment that the touch names, and the empty edit if there is none.
abbrev pub IsEdit : List Pattern → List VarDecl → List PatToken → List Item → List ItemNodes → List ℕ → List FileToken → Touched → Edit → Type 0
IsEdit patterns decls tokens items nodes ids files t edit =
    EditOf decls tokens t.env files (pairs_at patterns decls tokens items nodes ids t) edit

abbrev pub IsEditAt : Rule → List Item → List ItemNodes → List TextPiece → Touched → Edit → Type 0
IsEditAt rule items nodes pieces =
    IsEdit (patterns_body (body rule.body)) rule.vars rule.tokens items nodes (ids_of pieces) (file_tokens pieces)

-- the edits of all touches in order, each once
pub record AreEdits (witnesses : List RuleWitness) (rule : Rule) (items : List Item) (nodes : List ItemNodes)
    (pieces : List TextPiece) (edits : List Edit) : Type 0 where
  pub all : List Edit
  pub each : AllZip (IsEditAt rule items nodes pieces) (touches witnesses) all
  pub distinct : edits ≡ once all
