-- Which line gives the indentation of an insert.
use Rattle.std.specs.Prelude.{ℕ, ◌-◌, ◌||◌, Bool, true, false, List, [], ◌∷◌, length, take, slice_get, if◌then◌else◌}
use Rattle.std.specs.Prelude.{Option, None, Some, option_and_then}
use Rattle.std.specs.Option.{option_map}
use Rattle.c_terms.specs.declared.label.Label.{Label}
use Rattle.c_terms.specs.declared.label.Label.TheVariants as label
use Rattle.c_terms.specs.declared.tree.Tree.{Tree, out-Tree}
use Rattle.c_terms.specs.declared.tree.Tree.TheOpen.{Tree-F}
use Rattle.c_terms.specs.Places.{child, subtree}
use Rattle.c_terms.specs.Shapes.{is_body}
use Rattle.c_terms.specs.Trees.{leaves}
use Rattle.edit_marks.specs.declared.insert.Anchor.{Anchor}
use Rattle.edit_marks.specs.declared.insert.Anchor.TheVariants.{Removed, AfterLine, AfterToken, BeforeToken}
use Rattle.edit_marks.specs.declared.tidy.depth.AtomDepth.{AtomDepth}
use Rattle.edit_marks.specs.declared.file_tokens.FileToken.{FileToken}
use Rattle.edit_marks.specs.EditWalk.Keys.{number_of}

abbrev pub is_block_label : Label → Bool
is_block_label label.Block = true
is_block_label l = false

-- child i is a statement of its own: one of a block, or a body
abbrev pub is_statement_at : Tree-F Tree → ℕ → Bool
is_statement_at (Tree-F.Leaf token) i = false
is_statement_at (Tree-F.Branch l children) i = is_block_label l || is_body l (length children) i

abbrev pub is_statement_in : Tree → ℕ → Bool
is_statement_in t i = is_statement_at (out-Tree t) i

abbrev pub with_step : ℕ → Option (List ℕ) → List ℕ
with_step i None = []
with_step i (Some path) = i ∷ path

-- the part of a path that leads to the statement or item that names the node of the place
abbrev pub node_path : Tree → List ℕ → List ℕ
node_path t [] = []
node_path t (i ∷ path) = if is_statement_in t i then with_step i (option_map (λ c. node_path c path) (child t i)) else []

-- a path without its last numbers
abbrev pub without_last : ℕ → List ℕ → List ℕ
without_last n path = take (length path - n) path

-- after a token that stays
abbrev pub reach_after : Bool → AtomDepth → Tree → List ℕ → List ℕ
reach_after false d t path = without_last d.around path
reach_after true d t path = node_path t path

-- The path to the tree on whose first line an insert is indented, at a touch of a pattern that is compared inside of nodes or
-- not: after a token that stays that of the statement which the pattern names, at a removed token that of the node without the
-- compounds around it that the rule removes, and else that of the node.
abbrev pub reach_of : Anchor → Bool → AtomDepth → Tree → List ℕ → List ℕ
reach_of Removed inside d t path = without_last d.removed (node_path t path)
reach_of AfterLine inside d t path = reach_after inside d t path
reach_of AfterToken inside d t path = reach_after inside d t path
reach_of BeforeToken inside d t path = node_path t path

abbrev pub indent_in : Option FileToken → Option (List ℕ)
indent_in None = None
indent_in (Some f) = Some f.indent

-- the blanks that begin the line of the token with an id
abbrev pub indent_at : List ℕ → List FileToken → ℕ → Option (List ℕ)
indent_at ids files id = option_and_then (λ n. indent_in (slice_get files n)) (number_of ids id)

-- the blanks that begin the line of the first token of the tree at a path
abbrev pub indent_of : List ℕ → List FileToken → Tree → List ℕ → Option (List ℕ)
indent_of ids files tree path =
    option_and_then (λ own. option_and_then (λ first. indent_at ids files first.id) (slice_get (leaves own) 0)) (subtree tree path)
