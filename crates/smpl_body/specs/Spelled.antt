-- Which tree spells tokens: the first that exists of an expression, statements and, for a body, one function.
use Rattle.std.specs.Prelude.{◌≡◌, ◌≤◌, ⊤, Bool, true, false, List, [], ◌∷◌, ◌⊎◌}
use Rattle.c_terms.specs.declared.token.Token.{Token}
use Rattle.c_terms.specs.declared.label.Label.TheVariants as label
use Rattle.c_terms.specs.declared.tree.Tree.{Tree, out-Tree}
use Rattle.c_terms.specs.declared.tree.Tree.TheOpen.{Tree-F}
use Rattle.c_terms.specs.Names.{listed_names}
use Rattle.c_rows.specs.declared.kind.Kind.{Kind}
use Rattle.c_rows.specs.declared.kind.Kind.TheVariants as kind
use Rattle.c_rows.specs.Trees.{IsTreeOf}
use Rattle.c_rows.specs.Depth.{opens_of}
use Rattle.c_rows.specs.Limits.{most_open}
use Rattle.smpl_body.specs.declared.smpl_when.cutting.Code.{Code}
use Rattle.smpl_body.specs.declared.reading.Form.{Form}
use Rattle.smpl_body.specs.declared.reading.Form.TheVariants as form

abbrev pub kind_of : Form → Kind
kind_of form.Expression = kind.Expr
kind_of form.Statements = kind.StmtList
kind_of form.Function = kind.External

abbrev pub is_function_in : Tree-F Tree → Bool
is_function_in (Tree-F.Leaf t) = false
is_function_in (Tree-F.Branch label.FunDef cs) = true
is_function_in (Tree-F.Branch l cs) = false

-- an item is a function, not a declaration
abbrev pub is_function : Tree → Bool
is_function t = is_function_in (out-Tree t)

abbrev pub IsOfForm : Form → Tree → Type 0
IsOfForm form.Expression t = ⊤
IsOfForm form.Statements t = ⊤
IsOfForm form.Function t = is_function t ≡ true

-- A tree of this form spells all of the tokens with the listed names of types. They have at most 200 brackets open at once.
pub record IsTree (form : Form) (tokens : List Token) (t : Tree) : Type 0 where
  pub shallow : opens_of tokens ≤ most_open
  pub spells : IsTreeOf (kind_of form) listed_names tokens t
  pub is_form : IsOfForm form t

abbrev pub NoTree : Form → List Token → Type 0
NoTree form tokens = (t : Tree) → IsTree form tokens t → ⊥

-- the tree has the first of these forms in which a tree spells the tokens
abbrev pub IsFirst : List Form → List Token → Tree → Type 0
IsFirst [] tokens t = ⊥
IsFirst (f ∷ fs) tokens t = IsTree f tokens t ⊎ (NoTree f tokens × IsFirst fs tokens t)

abbrev pub body_forms : List Form
body_forms = form.Expression ∷ form.Statements ∷ form.Function ∷ []

abbrev pub code_forms : List Form
code_forms = form.Expression ∷ form.Statements ∷ []

-- the same, and there is a token
abbrev pub IsRead : List Form → List Token → Tree → Type 0
IsRead forms [] tree = ⊥
IsRead forms (t ∷ ts) tree = IsFirst forms (t ∷ ts) tree

-- each piece of code has a tree
abbrev pub AreRead : List Code → List Tree → Type 0
AreRead [] [] = ⊤
AreRead [] (t ∷ ts) = ⊥
AreRead (c ∷ cs) [] = ⊥
AreRead (c ∷ cs) (t ∷ ts) = IsRead code_forms c.tokens t × AreRead cs ts
