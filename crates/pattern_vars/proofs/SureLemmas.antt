-- Intersections of sets of variables, and what puts in the sure variables of trees.
use Rattle.std.proofs.Common.{◌≡◌, ℕ, ◌<◌, Bool, true, false, ◌&&◌, ◌||◌, List, length, get_or, refl, sym, ap, ◌∙◌, Some, slice_get, Result, OnOk}
use Rattle.std.proofs.lemmas.Option.{slice_get-get_or, same_Some}
use Rattle.std.proofs.lemmas.Result.{on_ok_weaker}
use Rattle.c_terms.specs.declared.label.Label.{Label}
use Rattle.c_terms.specs.declared.shape.Shape.{Shape}
use Rattle.c_terms.specs.Shapes.{shape_of}
use Rattle.c_terms.specs.declared.tree.Tree.{Tree}
use Rattle.c_terms.specs.declared.tree.Tree.TheVariants.{Branch}
use Rattle.smpl_terms.specs.declared.var.Var.{Var}
use Rattle.smpl_terms.specs.Vars.{same_var}
use Rattle.smpl_terms.proofs.VarLaws.{same_var-equal}
use Rattle.smpl_patch.specs.declared.pattern.VarDecl.{VarDecl}
use Rattle.smpl_patch.specs.declared.pattern.PatToken.{PatToken}
use Rattle.smpl_patch.specs.Patterns.{is_sure}
use Rattle.smpl_patch.proofs.SureLemmas.{sure_kids, sure-shown}
use Rattle.pattern_vars.specs.Reads.{has, is_declared}

-- what is kept of two
pub and_over_or : (a b c : Bool) → ((a || b) && c) ≡ ((a && c) || (b && c))
and_over_or true true true = refl
and_over_or true false true = refl
and_over_or true true false = refl
and_over_or true false false = refl
and_over_or false b c = refl

-- an element by its number
pub element_at : {X : Type 0} (xs : List X) (i : ℕ) (x : X) → i < length xs → slice_get xs i ≡ Some x
    → x ≡ get_or xs i x
element_at xs i x l h = same_Some x (get_or xs i x) (sym h ∙ slice_get-get_or xs i x l)

-- the variable of a set that has it
pub same-has : (vars : List Var) (x y : Var) → has vars x ≡ true → same_var x y ≡ (same_var x y && has vars y)
same-has vars x y h = by (same_var x y) refl
  where
    by : (b : Bool) → same_var x y ≡ b → b ≡ (b && has vars y)
    by true e = sym (ap (has vars) (sym (same_var-equal x y e)) ∙ h)
    by false e = refl

-- the variable that a set lacks
pub same-lacks : (vars : List Var) (x y : Var) → has vars x ≡ false → (same_var x y && has vars y) ≡ false
same-lacks vars x y h = by (same_var x y) refl
  where
    by : (b : Bool) → same_var x y ≡ b → (b && has vars y) ≡ false
    by true e = ap (has vars) (sym (same_var-equal x y e)) ∙ h
    by false e = refl

-- the tree is a branch of this label, whose shape and children were read
pub record IsBranch (u : Tree) (l : Label) (cs ds : List Tree) (s : Shape) : Type 0 where
  pub branch : u ≡ Branch l cs
  pub shape : s ≡ shape_of l
  pub children : ds ≡ cs

-- the variables that are put in for a branch are its sure ones
pub put-shown : {E : Type 0} (decls : List VarDecl) (tokens : List PatToken) (u : Tree) (l : Label) (cs ds : List Tree) (s : Shape)
    (old new : List Var) (r : Result (Unit {0}) E) → IsBranch u l cs ds s
    → OnOk r ((y : Var) → is_declared decls y ≡ true → has new y ≡ (has old y || sure_kids decls tokens y s ds))
    → OnOk r ((y : Var) → is_declared decls y ≡ true → has new y ≡ (has old y || is_sure decls tokens y u))
put-shown decls tokens u l cs ds s old new r b =
    on_ok_weaker r (λ h y d. h y d
    ∙ ap (λ (q : Bool). has old y || q)
    (sure-shown decls tokens y u l cs ds s (sure_kids decls tokens y s ds) b.branch b.shape b.children refl))
