-- The tidied edit of a touch, before tokens stay, and the statement that its pattern names.
use Rattle.std.specs.Prelude.{ℕ, ◌≡◌, Bool, true, false, List, map, slice_get, Option, None, Some, option_and_then}
use Rattle.c_terms.specs.declared.tree.Tree.{Tree}
use Rattle.cpp_lines.specs.declared.reading.Item.{Item}
use Rattle.edit_marks.specs.declared.edit_walk.nodes.ItemNodes.{ItemNodes}
use Rattle.smpl_patch.specs.declared.pattern.VarDecl.{VarDecl}
use Rattle.smpl_patch.specs.declared.pattern.PatToken.{PatToken}
use Rattle.smpl_patch.specs.declared.pattern.Pattern.{Pattern}
use Rattle.smpl_patch.specs.declared.pattern.Spot.{Spot}
use Rattle.smpl_patch.specs.declared.pattern.Spot.TheVariants as spot
use Rattle.edit_marks.specs.declared.edit_conflict.edit.Edit.{Edit}
use Rattle.edit_marks.specs.declared.file_tokens.FileToken.{FileToken}
use Rattle.edit_marks.specs.declared.tidy.depth.AtomDepth.{AtomDepth}
use Rattle.edit_marks.specs.declared.tidy.touch.PatternStatement.{PatternStatement}
use Rattle.edit_marks.specs.declared.tidy.touch.TouchEdit.{TouchEdit}
use Rattle.edit_marks.specs.declared.tidy.touch.TidyContext.{TidyContext}
use Rattle.edit_marks.specs.EditWalk.Keys.{number_of}
use Rattle.edit_marks.specs.EditWalk.Named.{pairs_at, tree_of}
use Rattle.edit_marks.specs.EditWalk.Touches.{Touched}
use Rattle.edit_marks.specs.EditWalk.WalkContexts.{patterns_at}
use Rattle.edit_marks.specs.Tidy.Depths.{outermost}
use Rattle.edit_marks.specs.Tidy.Edits.{TidyEditOf, TouchAt}
use Rattle.edit_marks.specs.Tidy.Reach.{without_last}

abbrev pub is_inside : Spot → Bool
is_inside spot.Inside = true
is_inside s = false

abbrev pub inside_of : Option Pattern → Bool
inside_of None = false
inside_of (Some p) = is_inside p.spot

abbrev pub depth_of : Option AtomDepth → AtomDepth
depth_of None = outermost
depth_of (Some d) = d

-- how deep the atom with a number is, and whether its pattern is compared with the expressions in a node
abbrev pub depth_at : List Pattern → List AtomDepth → ℕ → AtomDepth
depth_at patterns depths atom = depth_of (option_and_then (slice_get depths) (number_of (map (λ p. p.atom) patterns) atom))

abbrev pub inside_at : List Pattern → ℕ → Bool
inside_at patterns atom = inside_of (option_and_then (slice_get patterns) (number_of (map (λ p. p.atom) patterns) atom))

abbrev pub touch_at : List Pattern → List Item → List AtomDepth → Touched → TouchAt
touch_at patterns items depths t = record {
  tree = tree_of items t.item;
  path = t.path;
  depth = depth_at patterns depths t.atom;
  inside = inside_at patterns t.atom;
}

-- the statement around which the pattern has no braces
abbrev pub statement_at : List Pattern → List AtomDepth → Touched → PatternStatement
statement_at patterns depths t = record { item = t.item; path = without_last (depth_at patterns depths t.atom).around t.path }

module _ (patterns : List Pattern) (decls : List VarDecl) (tokens : List PatToken) (items : List Item) (nodes : List ItemNodes) (ids : List ℕ)
    (files : List FileToken) (depths : List AtomDepth) where
  abbrev pub IsTidyEdit : Touched → Edit → Type 0
  IsTidyEdit t edit = TidyEditOf decls tokens t.env ids files (touch_at patterns items depths t) (pairs_at patterns decls tokens items nodes ids t) edit

  -- for internal use: the edit of a touch with its statement
  pub record IsTidyTouch (t : Touched) (e : TouchEdit) : Type 0 where
    pub edit : IsTidyEdit t e.edit
    pub statement : e.statement ≡ statement_at patterns depths t

abbrev pub IsTidyTouchHere : TidyContext → Touched → TouchEdit → Type 0
IsTidyTouchHere c = IsTidyTouch (patterns_at c.walk) c.walk.decls.now c.walk.tokens.now c.walk.items.now c.walk.nodes.now c.walk.ids.now
    c.walk.files.now c.depths.now
