-- A tree that the rows derive has the tokens for leaves.
use Rattle.std.proofs.Common.{◌≡◌, List, ◌∷◌, ◌++◌, ap, sym, refl, ◌∙◌, map, append_assoc, append-nil}
use Rattle.c_terms.specs.declared.token.Token.{Token}
use Rattle.c_terms.specs.declared.tree.Tree.{Tree}
use Rattle.c_terms.specs.Trees.{leaves, join}
use Rattle.c_terms.proofs.TreeLemmas.{leaves-Leaf, leaves-Branch}
use Rattle.c_rows.specs.declared.kind.Kind.{Kind}
use Rattle.c_rows.specs.Look.{Names}
use Rattle.c_rows.specs.Rows.{Row, label_of}
use Rattle.c_rows.specs.Derives.{Derives, leaf, branch, DerivesRow, done, word, child, argument, type_argument, fork}
use Rattle.c_rows.specs.Trees.{IsTreeOf}

module _ (names : Names) (may : List Token → List Token → Type 0) where
  first_part : (t : Tree) (cs : List Tree) (xs us ys : List Token) → xs ≡ leaves t ++ us → us ≡ join (map leaves cs) ++ ys
      → xs ≡ join (map leaves (t ∷ cs)) ++ ys
  first_part t cs xs us ys e f = e ∙ ap (λ (ts : List Token). leaves t ++ ts) f ∙ sym (append_assoc (leaves t) (join (map leaves cs)) ys)

  mutual
    derived_leaves : {k : Kind} {xs ys : List Token} {t : Tree} → Derives names may k xs t ys → xs ≡ leaves t ++ ys
    derived_leaves (leaf {t = t} {ys = ys} h) = ap (λ (ts : List Token). ts ++ ys) (sym (leaves-Leaf t))
    derived_leaves {ys = ys} (branch {cs = cs} r w b al parts) = row_leaves parts ∙ ap (λ (ts : List Token). ts ++ ys) (sym (leaves-Branch (label_of r cs) cs))

    row_leaves : {ps : Row} {xs ys : List Token} {cs : List Tree} → DerivesRow names may ps xs cs ys → xs ≡ join (map leaves cs) ++ ys
    row_leaves done = refl
    row_leaves {ys = ys} (word {t = t} {cs = cs} h rest) =
        ap (λ (ts : List Token). t ∷ ts) (row_leaves rest) ∙ ap (λ (ts : List Token). (ts ++ join (map leaves cs)) ++ ys) (sym (leaves-Leaf t))
    row_leaves (child {xs = xs} {ys = us} {zs = ys} {t = t} {cs = cs} d rest) = first_part t cs xs us ys (derived_leaves d) (row_leaves rest)
    row_leaves (argument {xs = xs} {ys = us} {zs = ys} {t = t} {cs = cs} d rest) = first_part t cs xs us ys (derived_leaves d) (row_leaves rest)
    row_leaves (type_argument {xs = xs} {ys = us} {zs = ys} {t = t} {cs = cs} a d rest) = first_part t cs xs us ys (derived_leaves d) (row_leaves rest)
    row_leaves (fork i w v way) = row_leaves way

pub tree_leaves : (k : Kind) (names : Names) (tokens : List Token) (t : Tree) → IsTreeOf k names tokens t → leaves t ≡ tokens
tree_leaves k names tokens t h = sym (append-nil (leaves t)) ∙ sym (derived_leaves names _ h.derived)
