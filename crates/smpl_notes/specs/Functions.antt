-- Patterns of functions that find less than they seem to.
use Rattle.std.specs.Prelude.{Bool, true, false, ◌&&◌, ◌||◌, Option, None, Some, is_none, List, [], ◌∷◌, ◌++◌, slice_get}
use Rattle.c_terms.specs.declared.label.Label.TheVariants as label
use Rattle.c_terms.specs.declared.token.Token.{Token}
use Rattle.c_terms.specs.declared.tree.Tree.{Tree, out-Tree}
use Rattle.c_terms.specs.declared.tree.Tree.TheOpen.{Tree-F}
use Rattle.c_terms.specs.Trees.{leaves}
use Rattle.c_terms.specs.Places.{child}
use Rattle.smpl_patch.specs.declared.rule.Mode.{Mode}
use Rattle.smpl_patch.specs.declared.rule.Mode.TheVariants as mode
use Rattle.smpl_patch.specs.Bodies.{Element, Compound, Block, Body, End, Then, Bodies, NoMore, More}
use Rattle.smpl_patch.specs.Shapes.{is_dots}
use Rattle.smpl_notes.specs.declared.note.Slip.{Slip}
use Rattle.smpl_notes.specs.declared.note.Slip.TheVariants.{LooplessFunction, UntypedFunction}
use Rattle.smpl_notes.specs.declared.note.Found.{Found}
use Rattle.smpl_notes.specs.Tokens as tokens

-- ---- forms of heads

abbrev pub is_function : Tree-F Tree → Bool
is_function (Tree-F.Branch label.FunDef cs) = true
is_function _ = false

abbrev pub is_iterator : Tree-F Tree → Bool
is_iterator (Tree-F.Branch label.Iterator cs) = true
is_iterator _ = false

abbrev pub are_arguments : Tree-F Tree → Bool
are_arguments (Tree-F.Branch label.Args cs) = true
are_arguments _ = false

abbrev pub is_name : Tree-F Tree → Bool
is_name (Tree-F.Leaf t) = tokens.may_be_name t.kind
is_name (Tree-F.Branch l cs) = false

abbrev pub is_gap : Tree-F Tree → Bool
is_gap (Tree-F.Leaf t) = tokens.is_dots t.kind
is_gap (Tree-F.Branch l cs) = false

-- whether there is a tree that passes the test
abbrev pub is_some : (Tree-F Tree → Bool) → Option Tree → Bool
is_some test None = false
is_some test (Some t) = test (out-Tree t)

-- arguments that are dots alone
abbrev pub are_dots : Option Tree → Bool
are_dots None = false
are_dots (Some t) = are_arguments (out-Tree t) && (is_some is_gap (child t 0) && is_none (child t 1))

-- `f(...)` before a body: a loop by a macro, as which a function without a type is read
abbrev pub is_untyped : Tree → Bool
is_untyped form = is_iterator (out-Tree form) && (is_some is_name (child form 0) && are_dots (child form 2))

-- ---- the block of a function

-- dots or a nest are among the elements of the sequence
abbrev pub any_dots : Body → Bool
any_dots End = false
any_dots (Then e rest) = is_dots e || any_dots rest

abbrev pub block_has_dots : Element → Bool
block_has_dots (Block left b right) = any_dots b
block_has_dots _ = false

abbrev pub first_has_dots : Body → Bool
first_has_dots End = false
first_has_dots (Then e rest) = block_has_dots e

-- dots or a nest are directly in the block that is the first body
abbrev pub have_dots : Bodies → Bool
have_dots NoMore = false
have_dots (More b bs) = first_has_dots b

-- ---- the slips

abbrev pub is_forall : Mode → Bool
is_forall mode.Forall = true
is_forall mode.Exists = false

abbrev pub at_token : Option Token → Slip → List Found
at_token None s = []
at_token (Some t) s = record { token = t.id; slip = s } ∷ []

-- at the first token of the form, if the flag is true
abbrev pub slip_if : Bool → Tree → Slip → List Found
slip_if true form s = at_token (slice_get (leaves form) 0) s
slip_if false form s = []

-- dots or a nest are directly in the block of a function, and hold on every way
abbrev pub is_loopless : Mode → Tree-F Tree → Bodies → Bool
is_loopless m form bs = is_forall m && (is_function form && have_dots bs)

abbrev pub head_slips : Mode → Tree → Bodies → List Found
head_slips m form bs =
    slip_if (is_loopless m (out-Tree form) bs) form LooplessFunction
    ++ slip_if (is_untyped form) form UntypedFunction

abbrev pub first_slips : Mode → List Tree → Bodies → List Found
first_slips m [] bs = []
first_slips m (form ∷ forms) bs = head_slips m form bs

abbrev pub element_slips : Mode → Element → List Found
element_slips m (Compound head bs tail) = first_slips m head.forms bs
element_slips m _ = []

-- Of a body that is one statement or function with bodies. A function is always the whole body of its rule.
abbrev pub function_slips : Mode → Body → List Found
function_slips m (Then e End) = element_slips m e
function_slips m _ = []
