-- What the tokens of a pattern say: which variables appear in it, and whether it is a statement variable.
use Rattle.std.specs.Prelude.{ℕ, Bool, true, false, not, ◌&&◌, ◌||◌, cond, Option, None, Some, List, [], ◌∷◌, slice_get}
use Rattle.std.specs.List.{list_any, list_all}
use Rattle.c_terms.specs.declared.shape.Shape.{Shape}
use Rattle.c_terms.specs.declared.shape.Shape.TheVariants as shape
use Rattle.c_terms.specs.Shapes.{shape_of}
use Rattle.c_terms.specs.declared.token.Token.{Token}
use Rattle.c_terms.specs.declared.token.TokenKind.{TokenKind}
use Rattle.c_terms.specs.declared.token.TokenKind.TheVariants as kind
use Rattle.c_terms.specs.declared.token.MetaKind.TheVariants as meta
use Rattle.c_terms.specs.declared.tree.Tree.{Tree, out-Tree}
use Rattle.c_terms.specs.declared.tree.Tree.TheOpen.{Tree-F}
use Rattle.c_terms.specs.declared.tree.Tree.TheFolds.{fold-Tree}
use Rattle.c_terms.specs.Trees.{leaves}
use Rattle.c_terms.specs.Same.{same_bytes}
use Rattle.smpl_terms.specs.declared.var.Var.{Var}
use Rattle.smpl_patch.specs.declared.pattern.VarKind.{VarKind}
use Rattle.smpl_patch.specs.declared.pattern.VarKind.TheVariants as var_kind
use Rattle.smpl_patch.specs.declared.pattern.VarDecl.{VarDecl}
use Rattle.smpl_patch.specs.declared.pattern.PatToken.{PatToken}
use Rattle.smpl_patch.specs.declared.pattern.PlusBlock.{PlusBlock}
use Rattle.smpl_patch.specs.declared.pattern.PlusLine.{PlusLine}
use Rattle.smpl_patch.specs.declared.pattern.Pattern.{Pattern}
use Rattle.smpl_terms.specs.Vars.{same_var}
use Rattle.smpl_patch.specs.declared.pattern.Spot.{Spot}
use Rattle.smpl_patch.specs.declared.held.Question.{Question}
use Rattle.smpl_patch.specs.declared.held.Question.TheVariants as question
use Rattle.smpl_patch.specs.Held.{held}

abbrev pub is_position_kind : VarKind → Bool
is_position_kind var_kind.Position = true
is_position_kind (var_kind.Meta k) = false

-- what a metavariable's name is declared as: the first declaration of the name that is not a position
abbrev pub declared_as : List VarDecl → List ℕ → Option VarDecl
declared_as [] name = None
declared_as (d ∷ ds) name = cond (not (is_position_kind d.kind) && same_bytes d.var.name name) (Some d) (declared_as ds name)

abbrev pub is_var_of : Option VarDecl → Var → Bool
is_var_of None x = false
is_var_of (Some d) x = same_var d.var x

-- the token is a metavariable whose variable is x
abbrev pub is_meta_of : List VarDecl → Token → TokenKind → Var → Bool
is_meta_of decls t (kind.Meta k) x = is_var_of (declared_as decls t.text) x
is_meta_of decls t _ x = false

abbrev pub is_position_of : Option PatToken → Var → Bool
is_position_of None x = false
is_position_of (Some p) x = list_any (λ y. same_var y x) p.positions

-- signs of patterns separate branches
abbrev pub is_sign : TokenKind → Bool
is_sign kind.Pat = true
is_sign _ = false

abbrev pub is_statement_token : TokenKind → Bool
is_statement_token (kind.Meta meta.Stmt) = true
is_statement_token _ = false

abbrev pub is_statement_tree : Tree-F Tree → Bool
is_statement_tree (Tree-F.Leaf t) = is_statement_token t.kind
is_statement_tree (Tree-F.Branch l cs) = false

-- the first of a pattern's forms is the one that was written
abbrev pub in_first : (Tree → Bool) → List Tree → Bool
in_first test [] = false
in_first test (t ∷ ts) = test t

abbrev pub is_statement : Pattern → Bool
is_statement p = in_first (λ t. is_statement_tree (out-Tree t)) p.forms

abbrev pub is_sign_at : Tree-F Tree → Bool
is_sign_at (Tree-F.Leaf t) = is_sign t.kind
is_sign_at (Tree-F.Branch l cs) = false

abbrev pub is_sign_tree : Tree → Bool
is_sign_tree t = is_sign_at (out-Tree t)

-- whether the tree is one sign, and whether x is a sure variable of it
pub record Sure : Type 0 where
  pub sign : Bool
  pub sure : Bool

-- a disjunction has the variables that all its branches have, and any other branch those of its children
abbrev pub sure_by : Shape → List Sure → Bool
sure_by shape.Or ss = list_all (λ s. s.sign || s.sure) ss
sure_by shape.And ss = list_any (λ s. s.sure) ss
sure_by shape.List ss = list_any (λ s. s.sure) ss
sure_by shape.Plain ss = list_any (λ s. s.sure) ss

module _ (decls : List VarDecl) where
  abbrev pub in_line : Var → PlusLine → Bool
  in_line x line = list_any (λ t. is_meta_of decls t t.kind x) line.tokens

  abbrev pub in_block : Var → Option PlusBlock → Bool
  in_block x None = false
  in_block x (Some b) = list_any (in_line x) b.lines

  abbrev pub in_plus : Option PatToken → Var → Bool
  in_plus None x = false
  in_plus (Some p) x = in_block x p.before || in_block x p.after

module _ (decls : List VarDecl) (tokens : List PatToken) where
  -- x is the variable of the token, or a position at it
  abbrev pub is_own : Var → Token → Bool
  is_own x t = is_meta_of decls t t.kind x || is_position_of (slice_get tokens t.id) x

  -- x is the variable of one of the tree's tokens, or a position at one
  abbrev pub stands_in : Var → Tree → Bool
  stands_in x t = list_any (is_own x) (leaves t)

  -- the same, or x is in plus code that is anchored at one of the tokens
  abbrev pub used_in : Var → Tree → Bool
  used_in x t = list_any (λ a. is_own x a || in_plus decls (slice_get tokens a.id) x) (leaves t)

  module _ (x : Var) where
    abbrev pub sure_step : Tree-F Sure → Sure
    sure_step (Tree-F.Leaf t) = record { sign = is_sign t.kind; sure = is_own x t }
    sure_step (Tree-F.Branch l ss) = record { sign = false; sure = sure_by (shape_of l) ss }

    -- x has a value wherever the tree matches
    abbrev pub is_sure : Tree → Bool
    is_sure t = (fold-Tree Sure sure_step t).sure

  -- the answer to a question about a variable and a tree
  abbrev pub answer : Question → Var → Tree → Bool
  answer question.Stands = stands_in
  answer question.Used = used_in
  answer question.Sure = is_sure

  -- the answer is yes for some part of the form that is compared at the spot
  abbrev pub held_answer : Question → Spot → Var → Tree → Bool
  held_answer q s x form = list_any (answer q x) (held s form)

  -- x is a sure variable of the compared parts of the form
  abbrev pub held_sure : Spot → Var → Tree → Bool
  held_sure = held_answer question.Sure

  abbrev pub of_first : Question → Pattern → Var → Bool
  of_first q p x = in_first (held_answer q p.spot x) p.forms

  -- x appears in the pattern
  abbrev pub stands : Pattern → Var → Bool
  stands = of_first question.Stands

  -- x appears in the pattern, or in plus code that is anchored at it
  abbrev pub used : Pattern → Var → Bool
  used = of_first question.Used

  -- x is a sure variable of the pattern's first form
  abbrev pub sure : Pattern → Var → Bool
  sure = of_first question.Sure
