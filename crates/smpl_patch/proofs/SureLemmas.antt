-- The equations of sure variables.
use Rattle.std.proofs.Common.{◌≡◌, Bool, false, ◌||◌, refl, sym, ap, ◌∙◌, List, [], ◌∷◌, map}
use Rattle.std.specs.List.{list_any, list_all}
use Rattle.c_terms.specs.declared.token.Token.{Token}
use Rattle.c_terms.specs.declared.label.Label.{Label}
use Rattle.c_terms.specs.declared.shape.Shape.{Shape}
use Rattle.c_terms.specs.declared.shape.Shape.TheVariants as shape
use Rattle.c_terms.specs.Shapes.{shape_of}
use Rattle.c_terms.specs.declared.tree.Tree.{Tree}
use Rattle.c_terms.specs.declared.tree.Tree.TheVariants.{Leaf, Branch, rolls-Leaf, rolls-Branch}
use Rattle.c_terms.specs.declared.tree.Tree.TheFolds.{fold-Tree, fold-roll-Tree}
use Rattle.c_terms.proofs.SameLemmas.{out-Leaf, out-Branch}
use Rattle.c_terms.proofs.Induct.{tree_cases}
use Rattle.smpl_terms.specs.declared.var.Var.{Var}
use Rattle.smpl_patch.specs.declared.pattern.VarDecl.{VarDecl}
use Rattle.smpl_patch.specs.declared.pattern.PatToken.{PatToken}
use Rattle.smpl_patch.specs.Patterns.{Sure, is_own, is_sign, is_sign_at, is_sign_tree, sure_by, sure_step, is_sure}

module _ (decls : List VarDecl) (tokens : List PatToken) (x : Var) where
  abbrev pub both : Tree → Sure
  both = fold-Tree Sure (sure_step decls tokens x)

  pub both-Leaf : (t : Token) → both (Leaf t) ≡ record { sign = is_sign t.kind; sure = is_own decls tokens x t }
  both-Leaf t = ap both (sym (rolls-Leaf t)) ∙ fold-roll-Tree Sure (sure_step decls tokens x) _

  pub both-Branch : (l : Label) (cs : List Tree) → both (Branch l cs) ≡ record { sign = false; sure = sure_by (shape_of l) (map both cs) }
  both-Branch l cs = ap both (sym (rolls-Branch l cs)) ∙ fold-roll-Tree Sure (sure_step decls tokens x) _

  pub sign-both : (t : Tree) → (both t).sign ≡ is_sign_tree t
  sign-both = tree_cases (λ t. (both t).sign ≡ is_sign_tree t)
      (λ t. ap (λ (s : Sure). s.sign) (both-Leaf t) ∙ ap is_sign_at (sym (out-Leaf t)))
      (λ l cs. ap (λ (s : Sure). s.sign) (both-Branch l cs) ∙ ap is_sign_at (sym (out-Branch l cs)))

  every-both : (ts : List Tree) → list_all (λ (s : Sure). s.sign || s.sure) (map both ts) ≡ list_all (λ t. is_sign_tree t || is_sure decls tokens x t) ts
  every-both [] = refl
  every-both (t ∷ ts) = let h = sign-both t in let r = every-both ts in cc

  some-both : (ts : List Tree) → list_any (λ (s : Sure). s.sure) (map both ts) ≡ list_any (λ t. is_sure decls tokens x t) ts
  some-both [] = refl
  some-both (t ∷ ts) = let r = some-both ts in cc

  pub sure-Leaf : (t : Token) → is_sure decls tokens x (Leaf t) ≡ is_own decls tokens x t
  sure-Leaf t = ap (λ (s : Sure). s.sure) (both-Leaf t)

  -- whether x is a sure variable of a branch with this shape and these children
  abbrev pub sure_kids : Shape → List Tree → Bool
  sure_kids shape.Or cs = list_all (λ t. is_sign_tree t || is_sure decls tokens x t) cs
  sure_kids shape.And cs = list_any (λ t. is_sure decls tokens x t) cs
  sure_kids shape.List cs = list_any (λ t. is_sure decls tokens x t) cs
  sure_kids shape.Plain cs = list_any (λ t. is_sure decls tokens x t) cs

  kids : (s : Shape) (cs : List Tree) → sure_by s (map both cs) ≡ sure_kids s cs
  kids shape.Or cs = every-both cs
  kids shape.And cs = some-both cs
  kids shape.List cs = some-both cs
  kids shape.Plain cs = some-both cs

  pub sure-Branch : (l : Label) (cs : List Tree) → is_sure decls tokens x (Branch l cs) ≡ sure_kids (shape_of l) cs
  sure-Branch l cs = ap (λ (s : Sure). s.sure) (both-Branch l cs) ∙ kids (shape_of l) cs

  -- for the answers
  pub sure-shown : (u : Tree) (l : Label) (cs ds : List Tree) (s : Shape) (r : Bool) → u ≡ Branch l cs → s ≡ shape_of l → ds ≡ cs → r ≡ sure_kids s ds
      → r ≡ is_sure decls tokens x u
  sure-shown u l cs ds s r e f g h = rw e (h ∙ ap (sure_kids s) g ∙ ap (λ z. sure_kids z cs) f ∙ sym (sure-Branch l cs))
