-- Whether what stands in the place of a body needs braces.
use Rattle.std.specs.Prelude.{◌&&◌, ◌||◌, Bool, true, false, not, List, [], ◌∷◌, Option, None, Some}
use Rattle.c_terms.specs.declared.label.Label.{Label}
use Rattle.c_terms.specs.declared.label.Label.TheVariants as label
use Rattle.c_terms.specs.declared.tree.Tree.{Tree, out-Tree}
use Rattle.c_terms.specs.declared.tree.Tree.TheOpen.{Tree-F}
use Rattle.c_terms.specs.declared.tree.Tree.TheFolds.{fold-Tree}
use Rattle.c_terms.specs.Shapes.{is_statement_label}

-- a statement that may be a body by itself: no declaration, and no label without a statement
abbrev pub is_body_label : Label → Bool
is_body_label label.Decl = false
is_body_label label.Case = false
is_body_label label.CaseRange = false
is_body_label label.Default = false
is_body_label label.Label = false
is_body_label l = is_statement_label l

-- a statement that ends in a body
abbrev pub goes_on : Label → Bool
goes_on label.IfElse = true
goes_on label.While = true
goes_on label.For = true
goes_on label.ForDecl = true
goes_on label.Switch = true
goes_on label.Iterator = true
goes_on l = false

abbrev pub is_if : Label → Bool
is_if label.If = true
is_if l = false

abbrev pub last_of : List Bool → Bool
last_of [] = false
last_of (b ∷ []) = b
last_of (b ∷ c ∷ rest) = last_of (c ∷ rest)

abbrev pub open_step : Tree-F Bool → Bool
open_step (Tree-F.Leaf token) = false
open_step (Tree-F.Branch l children) = is_if l || (goes_on l && last_of children)

-- an `else` behind the statement would belong to an `if` in it
abbrev pub is_open : Tree → Bool
is_open = fold-Tree Bool open_step

abbrev pub is_list_label : Label → Bool
is_list_label label.StmtList = true
is_list_label l = false

-- the one statement of a list, if it has one alone
abbrev pub only_one : List Tree → Option Tree
only_one [] = None
only_one (t ∷ []) = Some t
only_one (t ∷ u ∷ rest) = None

abbrev pub only_in : Bool → List Tree → Option Tree
only_in true children = only_one children
only_in false children = None

abbrev pub only_of : Tree-F Tree → Option Tree
only_of (Tree-F.Leaf token) = None
only_of (Tree-F.Branch l children) = only_in (is_list_label l) children

abbrev pub only_statement : Tree → Option Tree
only_statement t = only_of (out-Tree t)

abbrev pub has_body_label : Tree-F Tree → Bool
has_body_label (Tree-F.Leaf token) = false
has_body_label (Tree-F.Branch l children) = is_body_label l

abbrev pub may_be_body : Tree → Bool
may_be_body t = has_body_label (out-Tree t)

abbrev pub is_one_body : Option Tree → Bool
is_one_body None = false
is_one_body (Some t) = may_be_body t

abbrev pub is_open_row : Option Tree → Bool
is_open_row None = false
is_open_row (Some t) = is_open t

-- What counts of a list of statements: whether it is one statement that may be a body, and whether an `else` behind it would belong
-- to that statement.
pub record RowForm : Type 0 where
  pub one : Bool
  pub open_ended : Bool

abbrev pub form_of : Tree → RowForm
form_of t = record { one = is_one_body (only_statement t); open_ended = is_open_row (only_statement t) }

-- a list of statements needs braces if it isn't one that may be a body, or if an `else` behind it would belong to it
abbrev pub needs_braces : Bool → RowForm → Bool
needs_braces else_next f = not f.one || (f.open_ended && else_next)
