-- The elements of a body have its tokens, and those of other code have the code's.
use Rattle.std.proofs.Common.{◌≡◌, ℕ, ap, ◌∙◌, List, [], ◌∷◌, inl, inr}
use Rattle.std.specs.Prelude.{length}
use Rattle.c_terms.specs.declared.token.Token.{Token}
use Rattle.c_terms.specs.declared.tree.Tree.{Tree}
use Rattle.c_terms.specs.Names.{listed_names}
use Rattle.c_rows.specs.Trees.{NoRival}
use Rattle.c_rows.proofs.RangeLemmas.{tree_leaves}
use Rattle.smpl_patch.specs.declared.elem.Dots.{Dots}
use Rattle.smpl_patch.specs.declared.elem.Elem.{Elem}
use Rattle.smpl_patch.specs.Bodies.{body}
use Rattle.smpl_meta.specs.declared.patterns.Placed.{Placed}
use Rattle.smpl_body.specs.SmplWhen.Cutting.{cut}
use Rattle.smpl_body.specs.SmplElem.Elements.{atoms, elements}
use Rattle.smpl_body.specs.declared.reading.Form.{Form}
use Rattle.smpl_body.specs.Spelled.{kind_of, IsTree, IsFirst, IsRead, body_forms}
use Rattle.smpl_body.specs.Bodies.{IsBody, body_dots, starts_from}
use Rattle.sound_laws.specs.SmplLeaves.Leaves.{code, body_tokens}
use Rattle.sound_laws.proofs.SmplLeaves.TreeLemmas.{tree-kept}
use Rattle.sound_laws.proofs.SmplLeaves.RowLemmas.{tree_shaped}

tree_kept : (f : Form) (tokens : List Token) (t : Tree) → IsTree f tokens t → (gap : ℕ → Dots) (n : ℕ)
    → code (body_tokens (body (elements gap n t))) ≡ code tokens
tree_kept f tokens t h gap n =
    tree-kept t (tree_shaped listed_names (NoRival listed_names (length tokens)) h.spells.derived) gap n
    ∙ ap code (tree_leaves (kind_of f) listed_names tokens t h.spells)

first_kept : (forms : List Form) (tokens : List Token) (t : Tree) → IsFirst forms tokens t → (gap : ℕ → Dots) (n : ℕ)
    → code (body_tokens (body (elements gap n t))) ≡ code tokens
first_kept [] tokens t h gap n = absurd h
first_kept (f ∷ fs) tokens t (inl h) gap n = tree_kept f tokens t h gap n
first_kept (f ∷ fs) tokens t (inr h) gap n = first_kept fs tokens t h.1 gap n

pub read_kept : (forms : List Form) (tokens : List Token) (t : Tree) → IsRead forms tokens t → (gap : ℕ → Dots) (n : ℕ)
    → code (body_tokens (body (elements gap n t))) ≡ code tokens
read_kept forms [] t h gap n = absurd h
read_kept forms (a ∷ tokens) t h gap n = first_kept forms (a ∷ tokens) t h gap n

pub body_kept : (ps : List Placed) (es : List Elem) → IsBody ps es → code (body_tokens (body es)) ≡ code (cut ps).main
body_kept ps es is =
    ap (λ xs. code (body_tokens (body xs))) is.are
    ∙ read_kept body_forms (cut ps).main is.tree is.spells.body (body_dots (cut ps).said is.codes (starts_from (atoms is.tree) is.codes)) 0
