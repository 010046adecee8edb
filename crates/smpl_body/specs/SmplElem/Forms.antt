-- What a tree is as a part of a body, and which of its children are parts in turn.
use Rattle.std.specs.Prelude.{ℕ, ◌+◌, Bool, true, false, ◌&&◌, if◌then◌else◌, nat_lt, List, [], ◌∷◌, length, Option, None, Some, slice_get, codes}
use Rattle.std.specs.Str.{bytes_eq}
use Rattle.c_terms.specs.declared.token.TokenKind.{TokenKind}
use Rattle.c_terms.specs.declared.token.TokenKind.TheVariants as token
use Rattle.c_terms.specs.declared.token.MetaKind.TheVariants as meta
use Rattle.c_terms.specs.declared.label.Label.{Label}
use Rattle.c_terms.specs.declared.label.Label.TheVariants as label
use Rattle.c_terms.specs.declared.tree.Tree.{Tree, out-Tree}
use Rattle.c_terms.specs.declared.tree.Tree.TheOpen.{Tree-F}
use Rattle.c_terms.specs.declared.tree.Tree.TheVariants.{Leaf, Branch}
use Rattle.c_terms.specs.Shapes.{is_expression_label, is_head_label, is_body}
use Rattle.smpl_patch.specs.declared.pattern.Spot.{Spot}
use Rattle.smpl_patch.specs.Held.{is_held}
use Rattle.smpl_body.specs.declared.smpl_elem.form.Form.{Form}
use Rattle.smpl_body.specs.declared.smpl_elem.form.Form.TheVariants as form

abbrev pub is_list_label : Label → Bool
is_list_label label.StmtList = true
is_list_label _ = false

abbrev pub is_list_in : Tree-F Tree → Bool
is_list_in (Tree-F.Leaf t) = false
is_list_in (Tree-F.Branch l cs) = is_list_label l

-- a list of statements
abbrev pub is_list : Tree → Bool
is_list t = is_list_in (out-Tree t)

abbrev pub is_list_at : Option Tree → Bool
is_list_at None = false
is_list_at (Some t) = is_list t

-- a token by itself: dots, a metavariable for a statement, or an expression
abbrev pub form_of_token : TokenKind → Form
form_of_token token.Dots = form.Gap
form_of_token (token.Meta meta.Stmt) = form.Plain
form_of_token _ = form.Expression

-- `\(`, `\|`, `\&` and `\)` delimit lists of statements, or expressions
abbrev pub form_of_choice : Form → List Tree → Form
form_of_choice f cs = if is_list_at (slice_get cs 1) then f else form.Expression

abbrev pub form_of_other : Label → Form
form_of_other l = if is_head_label l then form.Head else (if is_expression_label l then form.Expression else form.Plain)

abbrev pub form_of : Label → List Tree → Form
form_of label.PatOr cs = form_of_choice form.AnyOf cs
form_of label.PatAnd cs = form_of_choice form.AllOf cs
form_of label.PatNest cs = form.Nest
form_of label.Block cs = form.Block
form_of label.StmtList cs = form.List
form_of label.Do cs = form.Do
form_of l cs = form_of_other l

abbrev pub form_in : Tree-F Tree → Form
form_in (Tree-F.Leaf t) = form_of_token t.kind
form_in (Tree-F.Branch l cs) = form_of l cs

abbrev pub form_at : Tree → Form
form_at t = form_in (out-Tree t)

abbrev pub kids_in : Tree-F Tree → List Tree
kids_in (Tree-F.Leaf t) = []
kids_in (Tree-F.Branch l cs) = cs

-- the children of a branch
abbrev pub kids : Tree → List Tree
kids t = kids_in (out-Tree t)

abbrev pub label_in : Tree-F Tree → Label
label_in (Tree-F.Leaf t) = label.StmtList
label_in (Tree-F.Branch l cs) = l

-- the label of a branch, or for a token the label of a list of statements
abbrev pub label_at : Tree → Label
label_at t = label_in (out-Tree t)

-- whether child i of n children of a branch of this form and label has elements of its own
abbrev pub is_part : Form → Label → (n i : ℕ) → Tree → Bool
is_part form.AnyOf l n i c = is_list c
is_part form.AllOf l n i c = is_list c
is_part form.Nest l n i c = nat_lt 0 i && nat_lt (i + 1) n
is_part form.Block l n i c = nat_lt 0 i && nat_lt (i + 1) n
is_part form.List l n i c = true
is_part form.Head l n i c = is_body l n i
is_part form.Do l n i c = is_body l n i
is_part _ l n i c = false

-- the number of its own patterns before those of its parts, and after them
abbrev pub before : Form → ℕ
before form.Expression = 1
before form.Plain = 1
before form.Block = 1
before form.Head = 1
before form.Do = 1
before _ = 0

abbrev pub after : Form → ℕ
after form.Block = 1
after form.Do = 1
after _ = 0

-- ---- the tokens of a branch

-- the placeholder for a child that is not compared
abbrev pub nothing : Tree
nothing = Branch label.StmtList []

abbrev pub first_kid : List Tree → Tree
first_kid [] = nothing
first_kid (t ∷ ts) = t

abbrev pub last_kid : List Tree → Tree
last_kid [] = nothing
last_kid (t ∷ []) = t
last_kid (t ∷ u ∷ ts) = last_kid (u ∷ ts)

abbrev pub id_in : Tree-F Tree → ℕ
id_in (Tree-F.Leaf t) = t.id
id_in (Tree-F.Branch l cs) = 0

-- the number of a token
abbrev pub id_at : Tree → ℕ
id_at t = id_in (out-Tree t)

abbrev pub is_more_in : Tree-F Tree → Bool
is_more_in (Tree-F.Leaf t) = bytes_eq t.text (codes "<+...")
is_more_in (Tree-F.Branch l cs) = false

-- `<+...`
abbrev pub is_more : Tree → Bool
is_more t = is_more_in (out-Tree t)

abbrev pub child_or : Bool → Tree → Tree
child_or own t = if own then t else nothing

-- an empty list of statements replaces each child that is not compared at the spot
abbrev pub masked_from : (ℕ → Bool) → ℕ → List Tree → List Tree
masked_from own i [] = []
masked_from own i (t ∷ ts) = child_or (own i) t ∷ masked_from own (i + 1) ts

abbrev pub masked_in : Spot → Tree → Tree-F Tree → Tree
masked_in s t (Tree-F.Leaf a) = t
masked_in s t (Tree-F.Branch l cs) = Branch l (masked_from (is_held s l (length cs)) 0 cs)

-- a head or a tail
abbrev pub masked : Spot → Tree → Tree
masked s t = masked_in s t (out-Tree t)
