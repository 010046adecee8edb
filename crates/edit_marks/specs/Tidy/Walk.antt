-- The tidied edits of witnesses: one for each touch, without the last `;` of bodies that go whole, keeping the first of several
-- equal ones.
use Rattle.std.specs.Prelude.{ℕ, ◌≡◌, ◌↔◌, ◌&&◌, Bool, List, [], ◌∷◌, ◌++◌, Contains, length, map, nat_eq, if◌then◌else◌, Option, None, Some}
use Rattle.std.specs.List.{AllZip, flat_map, zip}
use Rattle.std.specs.List.Sorted.{IsStrictlyIncreasing}
use Rattle.c_lexer.specs.Pieces.{TextPiece}
use Rattle.c_lexer.specs.Ids.{ids_of}
use Rattle.cpp_lines.specs.declared.reading.Item.{Item}
use Rattle.edit_marks.specs.declared.edit_walk.nodes.ItemNodes.{ItemNodes}
use Rattle.smpl_patch.specs.declared.pattern.Pattern.{Pattern}
use Rattle.smpl_patch.specs.declared.rule.Rule.{Rule}
use Rattle.smpl_patch.specs.declared.witness.RuleWitness.{RuleWitness}
use Rattle.smpl_patch.specs.Bodies.{body}
use Rattle.smpl_patch.specs.Shapes.{patterns_body}
use Rattle.edit_marks.specs.declared.edit_conflict.edit.Edit.{Edit}
use Rattle.edit_marks.specs.declared.tidy.depth.AtomDepth.{AtomDepth}
use Rattle.edit_marks.specs.declared.tidy.touch.PatternStatement.{PatternStatement}
use Rattle.edit_marks.specs.declared.tidy.touch.TouchEdit.{TouchEdit}
use Rattle.edit_marks.specs.declared.tidy.walk.TidiedEdits.{TidiedEdits}
use Rattle.edit_marks.specs.EditConflict.Once.{number_in, once}
use Rattle.edit_marks.specs.EditWalk.Touches.{Touched, touches}
use Rattle.edit_marks.specs.Tokens.{file_tokens}
use Rattle.edit_marks.specs.Tidy.Bodies.{acts_of, staying, without}
use Rattle.edit_marks.specs.Tidy.Depths.{depths_body, outermost}
use Rattle.edit_marks.specs.Tidy.Outlines.{IsOutline}
use Rattle.edit_marks.specs.Tidy.Touch.{IsTidyEdit, IsTidyTouch, statement_at}

abbrev pub patterns_of : Rule → List Pattern
patterns_of rule = patterns_body (body rule.body)

abbrev pub depths_of : Rule → List AtomDepth
depths_of rule = depths_body rule.tokens outermost (body rule.body)

module _ (rule : Rule) (items : List Item) (nodes : List ItemNodes) (pieces : List TextPiece) where
  -- the edit of a touch, before tokens stay
  abbrev pub IsTidyEditAt : Touched → Edit → Type 0
  IsTidyEditAt = IsTidyEdit (patterns_of rule) rule.vars rule.tokens items nodes (ids_of pieces) (file_tokens pieces) (depths_of rule)

  -- for internal use: with its statement
  abbrev pub IsTidyTouchAt : Touched → TouchEdit → Type 0
  IsTidyTouchAt = IsTidyTouch (patterns_of rule) rule.vars rule.tokens items nodes (ids_of pieces) (file_tokens pieces) (depths_of rule)

-- edits without the removal of tokens that stay
abbrev pub without_staying : List ℕ → List Edit → List Edit
without_staying stays edits = map (without stays) edits

-- the edit does nothing
abbrev pub is_empty : Edit → Bool
is_empty e = nat_eq (length e.removed) 0 && nat_eq (length e.inserts) 0

-- the items of the touches whose edits do something
abbrev pub items_of : List Touched → List Edit → List ℕ
items_of [] edits = []
items_of (t ∷ ts) [] = []
items_of (t ∷ ts) (e ∷ edits) = (if is_empty e then [] else t.item ∷ []) ++ items_of ts edits

-- these numbers in order, each once
pub record AreInOrder (all : List ℕ) (items : List ℕ) : Type 0 where
  pub rise : IsStrictlyIncreasing items
  pub same : (n : ℕ) → Contains items n ↔ Contains all n

-- The edits of all touches in order, each once, where tokens stay that all of them together say, with the statement of each touch,
-- and with the outline of the items in which they do something.
pub record AreTidyEdits (witnesses : List RuleWitness) (rule : Rule) (items : List Item) (nodes : List ItemNodes)
    (pieces : List TextPiece) (made : TidiedEdits) : Type 0 where
  pub all : List Edit
  pub each : AllZip (IsTidyEditAt rule items nodes pieces) (touches witnesses) all
  pub touched : List ℕ
  pub ordered : AreInOrder (items_of (touches witnesses) all) touched
  pub outlined : IsOutline (ids_of pieces) items touched made.outline
  pub distinct : made.list ≡ once (without_staying (staying (acts_of all) made.outline) all)
  pub statements : made.statements.items
      ≡ zip (map (number_in made.list) (without_staying (staying (acts_of all) made.outline) all))
      (map (statement_at (patterns_of rule) (depths_of rule)) (touches witnesses))

-- for internal use: the items of touches whose edits do something
abbrev pub touched_of : List TouchEdit → List ℕ
touched_of touches = flat_map (λ t. if is_empty t.edit then [] else t.statement.item ∷ []) touches

-- a statement with a number, if there is one
abbrev pub pair_if : Option ℕ → PatternStatement → List (ℕ × PatternStatement)
pair_if None statement = []
pair_if (Some number) statement = (number, statement) ∷ []
