-- The variables of a form, by its children.
use Rattle.std.proofs.Common.{◌≡◌, ℕ, suc, zero, ◌<◌, Bool, true, false, ◌&&◌, refl, sym, ap, ◌∙◌, arith, List, [], ◌∷◌, map, length, get_or, Some}
use Rattle.std.specs.List.{list_all}
use Rattle.std.proofs.lemmas.Grind.{common_steps}
use Rattle.std.proofs.lemmas.List.Folds.{list_all-append}
use Rattle.c_terms.specs.declared.token.Token.{Token}
use Rattle.c_terms.specs.declared.label.Label.{Label}
use Rattle.c_terms.specs.declared.tree.Tree.{Tree, out-Tree}
use Rattle.c_terms.specs.declared.tree.Tree.TheOpen.{Tree-F}
use Rattle.c_terms.specs.declared.tree.Tree.TheVariants.{Leaf, Branch}
use Rattle.c_terms.specs.Trees.{join, leaves}
use Rattle.c_terms.specs.Lists.{comma, comma_at, is_comma}
use Rattle.c_terms.proofs.TreeLemmas.{leaves-Leaf, leaves-Branch}
use Rattle.c_terms.proofs.SameLemmas.{out-Leaf, out-Branch}
use Rattle.c_terms.proofs.Induct.{tree_cases}
use Rattle.smpl_terms.specs.declared.var.Var.{Var}
use Rattle.smpl_patch.specs.declared.pattern.VarDecl.{VarDecl}
use Rattle.smpl_patch.specs.declared.pattern.PatToken.{PatToken}
use Rattle.pat_match.specs.Fitting.{leaf_of}
use Rattle.pat_match.specs.Vars.{token_vars, comma_vars, leaf_vars, form_vars}

all-join : (q : Token → Bool) (ts : List Tree) → list_all q (join (map leaves ts)) ≡ list_all (λ t. list_all q (leaves t)) ts
all-join q [] = refl
all-join q (t ∷ ts) = list_all-append q (leaves t) (join (map leaves ts)) ∙ ap (λ b. list_all q (leaves t) && b) (all-join q ts)

and_true : (b : Bool) → (b && true) ≡ b
and_true true = refl
and_true false = refl

pub right_of : (a b : Bool) → (a && b) ≡ true → b ≡ true
right_of true b h = h
right_of false true h = refl
right_of false false h = h

pub all_at : {X : Type 0} (q : X → Bool) (xs : List X) (i : ℕ) (x : X) → i < length xs → x ≡ get_or xs i x → list_all q xs ≡ true → q x ≡ true
all_at q [] i x lt e h = absurd (omega arith)
all_at q (y ∷ xs) zero x lt e h = let f = ap q e in grind (arith, common_steps)
all_at q (y ∷ xs) (suc i) x lt e h = all_at q xs i x (omega arith) e (right_of (q y) (list_all q xs) h)

module _ (decls : List VarDecl) (tokens : List PatToken) (t : Var → Bool) where
  pub vars-Leaf : (a : Token) → form_vars decls tokens t (Leaf a) ≡ token_vars decls tokens t a
  vars-Leaf a = ap (list_all (token_vars decls tokens t)) (leaves-Leaf a) ∙ and_true (token_vars decls tokens t a)

  pub vars-Branch : (l : Label) (cs : List Tree) → form_vars decls tokens t (Branch l cs) ≡ list_all (form_vars decls tokens t) cs
  vars-Branch l cs = ap (list_all (token_vars decls tokens t)) (leaves-Branch l cs) ∙ all-join (token_vars decls tokens t) cs

  pub leaf-vars : (f : Tree) → form_vars decls tokens t f ≡ true → leaf_vars decls tokens t (leaf_of (out-Tree f)) ≡ true
  leaf-vars = tree_cases (λ f. form_vars decls tokens t f ≡ true → leaf_vars decls tokens t (leaf_of (out-Tree f)) ≡ true)
      (λ a h. ap (λ x. leaf_vars decls tokens t (leaf_of x)) (out-Leaf a) ∙ sym (vars-Leaf a) ∙ h)
      (λ l cs h. ap (λ x. leaf_vars decls tokens t (leaf_of x)) (out-Branch l cs))

  comma-leaf : (a : Token) (b : Bool) → is_comma a ≡ b → token_vars decls tokens t a ≡ true → comma_vars decls tokens t (comma_at (Tree-F.Leaf a)) ≡ true
  comma-leaf a true e h = let s = right_of _ _ h in rw e s
  comma-leaf a false e h = rw e refl

  -- a form that is a comma
  comma-one : (f : Tree) → form_vars decls tokens t f ≡ true → comma_vars decls tokens t (comma f) ≡ true
  comma-one = tree_cases (λ f. form_vars decls tokens t f ≡ true → comma_vars decls tokens t (comma f) ≡ true)
      (λ a h. ap (λ x. comma_vars decls tokens t (comma_at x)) (out-Leaf a) ∙ comma-leaf a (is_comma a) refl (sym (vars-Leaf a) ∙ h))
      (λ l cs h. ap (λ x. comma_vars decls tokens t (comma_at x)) (out-Branch l cs))

  -- the comma at a place of a list
  pub comma-at : (fs : List Tree) (k : ℕ) (x : Tree) (c : Token) → k < length fs → x ≡ get_or fs k x → Some c ≡ comma x
      → list_all (form_vars decls tokens t) fs ≡ true
      → comma_vars decls tokens t (Some c) ≡ true
  comma-at fs k x c lt e s h = ap (comma_vars decls tokens t) s ∙ comma-one x (all_at (form_vars decls tokens t) fs k x lt e h)

  -- the children of a branch
  pub kids-vars : (f : Tree) (l : Label) (cs ds : List Tree) → f ≡ Branch l cs → ds ≡ cs → form_vars decls tokens t f ≡ true
      → list_all (form_vars decls tokens t) ds ≡ true
  kids-vars f l cs ds e g h = ap (list_all (form_vars decls tokens t)) g ∙ sym (ap (form_vars decls tokens t) e ∙ vars-Branch l cs) ∙ h
