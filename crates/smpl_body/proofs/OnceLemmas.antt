-- Tokens have at most one tree, and a body has at most one list of elements and at most one fault.
use Rattle.std.specs.Prelude.{IsTrue}
use Rattle.std.proofs.Common.{◌≡◌, refl, List, [], ◌∷◌, inl, inr}
use Rattle.c_terms.specs.declared.token.Token.{Token}
use Rattle.c_terms.specs.declared.tree.Tree.{Tree}
use Rattle.c_terms.specs.Names.{listed_names}
use Rattle.c_rows.specs.declared.kind.Kind.TheVariants as kind
use Rattle.c_rows.specs.declared.kind.Kind.{Kind}
use Rattle.c_rows.specs.Look.{Names}
use Rattle.c_rows.specs.Trees.{IsTreeOf, stands_alone}
use Rattle.smpl_body.specs.declared.smpl_when.cutting.Code.{Code}
use Rattle.smpl_body.specs.declared.reading.Form.{Form}
use Rattle.smpl_body.specs.declared.reading.Form.TheVariants as form
use Rattle.smpl_body.specs.Spelled.{IsTree, IsFirst, IsRead, AreRead, code_forms}

-- tokens have at most one tree of a kind
abbrev pub OneTree : Type 0
OneTree = (kind : Kind) (names : Names) (tokens : List Token) (t u : Tree) → IsTrue (stands_alone kind)
    → IsTreeOf kind names tokens t → IsTreeOf kind names tokens u → t ≡ u

module _ (law : OneTree) where
  pub tree-once : (f : Form) (tokens : List Token) (t u : Tree) → IsTree f tokens t → IsTree f tokens u → t ≡ u
  tree-once form.Expression tokens t u one other = law kind.Expr listed_names tokens t u refl one.spells other.spells
  tree-once form.Statements tokens t u one other = law kind.StmtList listed_names tokens t u refl one.spells other.spells
  tree-once form.Function tokens t u one other = law kind.External listed_names tokens t u refl one.spells other.spells

  first-once : (fs : List Form) (tokens : List Token) (t u : Tree) → IsFirst fs tokens t → IsFirst fs tokens u → t ≡ u
  first-once [] tokens t u one other = absurd one
  first-once (f ∷ fs) tokens t u one other = elim one [
    | inl a ↦ elim other [ inl b ↦ tree-once f tokens t u a b | inr b ↦ absurd (b.0 t a) ]
    | inr a ↦ elim other [ inl b ↦ absurd (a.0 u b) | inr b ↦ first-once fs tokens t u a.1 b.1 ]
  ]

  pub read-once : (fs : List Form) (tokens : List Token) (t u : Tree) → IsRead fs tokens t → IsRead fs tokens u → t ≡ u
  read-once fs [] t u one other = absurd one
  read-once fs (a ∷ tokens) t u one other = first-once fs (a ∷ tokens) t u one other

  pub all-once : (cs : List Code) (ts us : List Tree) → AreRead cs ts → AreRead cs us → ts ≡ us
  all-once [] [] [] one other = refl
  all-once [] [] (u ∷ us) one other = absurd other
  all-once [] (t ∷ ts) us one other = absurd one
  all-once (c ∷ cs) [] us one other = absurd one
  all-once (c ∷ cs) (t ∷ ts) [] one other = absurd other
  all-once (c ∷ cs) (t ∷ ts) (u ∷ us) one other =
      let h = read-once code_forms c.tokens t u one.0 other.0 in let r = all-once cs ts us one.1 other.1 in λ i. h i ∷ r i
