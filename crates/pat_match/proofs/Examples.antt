-- The definitions at a few values, mainly where two readings would differ.
use Rattle.std.proofs.Common.{◌≡◌, ℕ, Bool, true, false, ◌&&◌, not, ap, refl, List, [], ◌∷◌, Some, None}
use Rattle.std.specs.Prelude.{codes}
use Rattle.c_terms.specs.declared.token.Token.{Token}
use Rattle.c_terms.specs.declared.token.TokenKind.{TokenKind}
use Rattle.c_terms.specs.declared.token.TokenKind.TheVariants as kind
use Rattle.c_terms.specs.declared.token.MetaKind.TheVariants as meta
use Rattle.c_terms.specs.declared.label.Label.TheVariants as label
use Rattle.c_terms.specs.declared.shape.Shape.TheVariants as shape
use Rattle.c_terms.specs.declared.list.Member.{Member}
use Rattle.c_terms.specs.declared.tree.Tree.{Tree}
use Rattle.c_terms.specs.declared.tree.Tree.TheOpen.{Tree-F}
use Rattle.c_types.specs.Tables.{ItemTypes}
use Rattle.smpl_terms.specs.declared.var.Var.{Var}
use Rattle.smpl_terms.specs.declared.value.Value.TheVariants.{Place}
use Rattle.smpl_patch.specs.declared.pattern.PatToken.{PatToken}
use Rattle.smpl_patch.specs.declared.pattern.Mark.TheVariants as mark
use Rattle.smpl_patch.specs.declared.pattern.VarDecl.{VarDecl}
use Rattle.smpl_patch.specs.declared.pattern.VarKind.TheVariants as var_kind
use Rattle.smpl_terms.specs.Environments.{Environment}
use Rattle.cfg_build.specs.declared.cfg_graph.label.NodeKind.TheVariants as node
use Rattle.cfg_build.specs.CfgGraph.Own.{is_own}
use Rattle.c_terms.specs.Constants.{is_constant_name}
use Rattle.pat_match.specs.Kinds.{token_is_of, label_is_of, is_named}
use Rattle.pat_match.specs.Tokens.{stands_at, token_fits}
use Rattle.pat_match.specs.Runs.{Piece, Pair, runs_from, fewest, is_wild_kind}
use Rattle.pat_match.specs.Fitting.{fits_by, pairs_by}
use Rattle.c_terms.specs.declared.tree.Tree.TheVariants.{Leaf}
use Rattle.c_terms.proofs.SameLemmas.{out-Leaf}
use Rattle.smpl_patch.specs.declared.pattern.Pattern.{Pattern}
use Rattle.smpl_patch.specs.Wants.{anything}
use Rattle.pat_match.specs.declared.role.NodeRole.{NodeRole}
use Rattle.pat_match.specs.Spots.{is_statement_node, token_whole, branch_whole, own_fit}
use Rattle.pat_match.specs.Roles.{is_statement_variable, role_at, may_stand}
use Rattle.pat_match.specs.Matching.{is_live_in, fits_seat}

abbrev token : TokenKind → List ℕ → ℕ → Token
token k text id = record { kind = k; text = text; id = id }

abbrev name : List ℕ → ℕ → Token
name text id = token kind.Name text id

abbrev comma_token : ℕ → Token
comma_token id = token kind.Punct (codes ",") id

abbrev p : Var
p = record { rule = 0; name = codes "p" }

abbrev q : Var
q = record { rule = 0; name = codes "q" }

abbrev at_p : PatToken
at_p = record { mark = mark.Context; positions = p ∷ []; before = None; after = None }

abbrev bare_entry : PatToken
bare_entry = record { mark = mark.Minus; positions = []; before = None; after = None }

abbrev with_plus : PatToken
with_plus = record { mark = mark.Context; positions = []; before = Some (record { many = false; lines = [] }); after = None }

-- the position p, which must not be where q is
abbrev p_not_q : VarDecl
p_not_q = record { var = p; kind = var_kind.Position; inherited = false; not_names = []; not_places = q ∷ []; wanted = anything }

-- Kinds.

-- a constant's name has a capital letter, and no lower-case letter
capitals : is_constant_name (codes "X_1") ≡ true
capitals = refl

no_capital : is_constant_name (codes "_1") ≡ false
no_capital = refl

one_small : is_constant_name (codes "Ab") ≡ false
one_small = refl

empty_name : is_constant_name [] ≡ false
empty_name = refl

number_is_constant : token_is_of meta.Constant (token kind.Number (codes "1") 0) ≡ true
number_is_constant = refl

-- a keyword is not a name, and capitals don't make it a constant
keyword_is_none : token_is_of meta.Constant (token kind.Keyword (codes "X") 0) ≡ false
keyword_is_none = refl

strings_are_constant : label_is_of meta.Constant label.Strings ≡ true
strings_are_constant = refl

-- the list between a call's parentheses is not an expression, and a list variable fits no tree by itself
args_are_none : label_is_of meta.Expr label.Args ≡ false
args_are_none = refl

list_fits_none : label_is_of meta.ExprList label.Args ≡ false
list_fits_none = refl

declaration_is_statement : label_is_of meta.Stmt label.Decl ≡ true
declaration_is_statement = refl

-- the names after `!=` are compared by their texts
excepted : is_named (codes "a" ∷ []) (Tree-F.Leaf (name (codes "a") 4)) ≡ true
excepted = refl

-- list variables belong to one kind of list, Dots to both kinds
params_in_args : is_wild_kind label.Args (kind.Meta meta.Params) ≡ false
params_in_args = refl

dots_in_params : is_wild_kind label.Params kind.Dots ≡ true
dots_in_params = refl

module _ (env : Environment) where
  -- a metavariable without a declaration fits nothing
  undeclared : (types : ItemTypes) (t : Tree) → token_fits [] env types (kind.Meta meta.Expr) (token (kind.Meta meta.Expr) (codes "E") 0) t ≡ false
  undeclared types t = refl

  -- Dots outside a list, and signs, fit nothing
  dots_alone : (types : ItemTypes) (t : Tree) → token_fits [] env types kind.Dots (token kind.Dots (codes "...") 0) t ≡ false
  dots_alone types t = refl

  -- a token without an entry has no position and no plus code, so it may be aligned with nothing
  no_entry : stands_at [] env None None ≡ true
  no_entry = refl

  bare : stands_at [] env (Some bare_entry) None ≡ true
  bare = refl

  -- a position or plus code at a token that is aligned with nothing: the form doesn't fit
  position_at_nothing : stands_at [] env (Some at_p) None ≡ false
  position_at_nothing = refl

  plus_at_nothing : stands_at [] env (Some with_plus) None ≡ false
  plus_at_nothing = refl

  plus_at_token : stands_at [] env (Some with_plus) (Some 7) ≡ true
  plus_at_token = refl

-- a position is the first token's id, and not that of an excepted one
position_here : stands_at (p_not_q ∷ []) (λ x. Place 7) (Some at_p) (Some 7) ≡ false
position_here = refl

position_alone : stands_at [] (λ x. Place 7) (Some at_p) (Some 7) ≡ true
position_alone = refl

position_elsewhere : stands_at [] (λ x. Place 8) (Some at_p) (Some 7) ≡ false
position_elsewhere = refl

-- Lists, by what their members fit.

abbrev dots : Piece
dots = record { token = Some (token kind.Dots (codes "...") 0); fits = λ t. false; pairs = λ t. [] }

abbrev comma_piece : ℕ → Piece
comma_piece id = record { token = Some (comma_token id); fits = λ t. false; pairs = λ t. [] }

abbrev one : Bool → Piece
one b = record { token = None; fits = λ t. b; pairs = λ t. [] }

abbrev member : Tree → Member
member t = record { comma = Some (comma_token 9); tree = t }

module _ (types : ItemTypes) (env : Environment) (a b : Tree) where
  -- Dots may also take no member, with the comma after them aligned with nothing
  dots_take_none : runs_from [] [] env label.Args None (dots ∷ comma_piece 1 ∷ one true ∷ []) (record { comma = None; tree = a } ∷ []) ≡ true
  dots_take_none = refl

  -- a member that is not a wildcard takes exactly one member
  one_takes_one : runs_from [] [] env label.Args None (one true ∷ []) (record { comma = None; tree = a } ∷ member b ∷ []) ≡ false
  one_takes_one = refl

  none_left : runs_from [] [] env label.Args None [] (record { comma = None; tree = a } ∷ []) ≡ false
  none_left = refl

  -- the first of two Dots takes as few as it can
  leftmost : fewest [] [] env label.Args None dots (comma_piece 1 ∷ dots ∷ []) (record { comma = None; tree = a } ∷ member b ∷ []) ≡ 0
  leftmost = refl

  -- a comma that no member follows is aligned with nothing, so it must be bare
  last_comma : runs_from [] (bare_entry ∷ at_p ∷ []) env label.Args None (one true ∷ comma_piece 1 ∷ []) (record { comma = None; tree = a } ∷ []) ≡ false
  last_comma = refl

  last_bare_comma : runs_from [] (bare_entry ∷ bare_entry ∷ []) env label.Args None (one true ∷ comma_piece 1 ∷ [])
      (record { comma = None; tree = a } ∷ []) ≡ true
  last_bare_comma = refl

  -- the comma before Dots that take nothing is aligned with nothing
  comma_before_none : runs_from [] (bare_entry ∷ at_p ∷ []) env label.Args None (one true ∷ comma_piece 1 ∷ dots ∷ [])
      (record { comma = None; tree = a } ∷ []) ≡ false
  comma_before_none = refl

  -- a disjunction fits if a branch fits, whatever the others do, and its first branch that fits is used
  later_branch : fits_by [] [] types env shape.Or label.PatOr (one false ∷ one true ∷ []) a ≡ true
  later_branch = refl

  first_branch : (x y : Pair) → pairs_by [] [] types env shape.Or label.PatOr
      (record { token = None; fits = λ t. false; pairs = λ t. x ∷ [] }
      ∷ record { token = None; fits = λ t. true; pairs = λ t. y ∷ [] } ∷ one true ∷ []) a ≡ y ∷ []
  first_branch x y = refl

  every_branch : fits_by [] [] types env shape.And label.PatAnd (one false ∷ one true ∷ []) a ≡ false
  every_branch = refl

  -- a sign with a position is aligned with nothing, so nothing fits
  sign_with_position : fits_by [] (at_p ∷ []) types env shape.Or label.PatOr
      (record { token = Some (token kind.Pat (codes "\\(") 0); fits = λ t. false; pairs = λ t. [] } ∷ one true ∷ []) a ≡ false
  sign_with_position = refl

  -- the dots before and after one member: `f(..., E, ...)` on two arguments, of which the last is E
  between_dots : runs_from [] [] env label.Args None (dots ∷ comma_piece 1 ∷ one true ∷ comma_piece 2 ∷ dots ∷ [])
      (record { comma = None; tree = a } ∷ member b ∷ []) ≡ true
  between_dots = refl

  -- Spots.

  -- no branch at spot Whole fits at the tail of `do`, or at an exit
  whole_at_tail : (form : Tree) → branch_whole [] [] types env node.DoTail form a ≡ false
  whole_at_tail form = refl

  whole_at_exit : (form : Tree) → branch_whole [] [] types env node.ExitNode form a ≡ false
  whole_at_exit form = refl

  -- a statement variable takes no closing brace and no function; `{` fits no simple statement
  variable_at_close : (form : Tree) → token_whole [] [] types env node.CloseBrace (token (kind.Meta meta.Stmt) (codes "S") 0) form a ≡ false
  variable_at_close form = refl

  brace_at_simple : (form : Tree) → token_whole [] [] types env node.Simple (token kind.Punct (codes "{") 0) form a ≡ false
  brace_at_simple form = refl

  -- the body of a head is not compared, but the number of its children is
  body_not_compared : own_fit (is_own node.Head label.If 5) 0 (one true ∷ one true ∷ one true ∷ one true ∷ one false ∷ []) (a ∷ a ∷ a ∷ a ∷ b ∷ []) ≡ true
  body_not_compared = refl

  children_counted : own_fit (is_own node.Head label.If 5) 0 (one true ∷ []) (a ∷ b ∷ []) ≡ false
  children_counted = refl

-- `else` is the head's own, the bodies around it are not; in a `do` statement all from `while` on is the tail's own
else_is_own : is_own node.Head label.IfElse 7 5 ≡ true
else_is_own = refl

first_body_is_not : is_own node.Head label.IfElse 7 4 ≡ false
first_body_is_not = refl

while_is_the_tails : is_own node.DoTail label.Do 7 2 ≡ true
while_is_the_tails = refl

while_is_not_the_heads : is_own node.Head label.Do 7 2 ≡ false
while_is_not_the_heads = refl

statement_at_head : is_statement_node node.Head ≡ true
statement_at_head = refl

statement_at_block : is_statement_node node.OpenBrace ≡ true
statement_at_block = refl

-- Roles: of `int f(void) { { a(); } }` the function's own block is child 2 of the item, and the other child 1 of that one.

abbrev own_block : NodeRole
own_block = role_at node.OpenBrace (2 ∷ [])

abbrev inner_block : NodeRole
inner_block = role_at node.OpenBrace (2 ∷ 1 ∷ [])

abbrev variable : Tree
variable = Leaf (token (kind.Meta meta.Stmt) (codes "S") 0)

abbrev brace : Tree
brace = Leaf (token kind.Punct (codes "{") 0)

own_is_outermost : own_block.outermost ≡ true
own_is_outermost = refl

inner_is_not : inner_block.outermost ≡ false
inner_is_not = refl

-- a function's head, at the path of the item, and a statement are not blocks
head_is_not : (role_at node.FunHead []).outermost ≡ false
head_is_not = refl

statement_is_not : (role_at node.Simple (2 ∷ [])).outermost ≡ false
statement_is_not = refl

variable_not_at_own : may_stand own_block variable ≡ false
variable_not_at_own = ap (λ y. not (is_statement_variable y)) (out-Leaf (token (kind.Meta meta.Stmt) (codes "S") 0))

variable_at_inner : may_stand inner_block variable ≡ true
variable_at_inner = refl

brace_at_own : may_stand own_block brace ≡ true
brace_at_own = ap (λ y. not (is_statement_variable y)) (out-Leaf (token kind.Punct (codes "{") 0))

neither : (a b c : Bool) → b ≡ false → ((a && b) && c) ≡ false
neither true false c h = refl
neither false b c h = refl
neither true true c h = absurd (cc)

-- so a statement variable fits no function's own block, whatever it holds
no_body : (decls : List VarDecl) (tokens : List PatToken) (types : ItemTypes) (env : Environment) (pattern : Pattern) (t : Tree)
    → fits_seat decls tokens types env pattern own_block variable t ≡ false
no_body decls tokens types env pattern t = neither (is_live_in decls tokens pattern variable) _ _ variable_not_at_own
