-- Sure variables that occur nowhere: they are sure for the same reason as any other variable that occurs nowhere.
use Rattle.std.proofs.Common.{◌≡◌, ℕ, ◌<◌, Bool, true, false, ◌&&◌, ◌||◌, nat_lt, refl, sym, ap, ◌∙◌, List, [], ◌∷◌, ◌++◌, map}
use Rattle.std.proofs.Common.{length, Contains, ⊎_elim}
use Rattle.std.specs.List.{list_any, list_all}
use Rattle.std.proofs.lemmas.List.Folds.{list_any-append}
use Rattle.c_terms.specs.declared.label.Label.{Label}
use Rattle.c_terms.specs.declared.shape.Shape.{Shape}
use Rattle.c_terms.specs.declared.shape.Shape.TheVariants as shape
use Rattle.c_terms.specs.declared.token.Token.{Token}
use Rattle.c_terms.specs.declared.tree.Tree.{Tree}
use Rattle.c_terms.specs.declared.tree.Tree.TheVariants.{Leaf, Branch}
use Rattle.c_terms.specs.Shapes.{shape_of}
use Rattle.c_terms.specs.Trees.{join, leaves}
use Rattle.c_terms.proofs.Induct.{Each, tree_induction}
use Rattle.c_terms.proofs.TreeLemmas.{leaves-Leaf, leaves-Branch}
use Rattle.smpl_terms.specs.declared.var.Var.{Var}
use Rattle.smpl_patch.specs.declared.pattern.VarDecl.{VarDecl}
use Rattle.smpl_patch.specs.declared.pattern.PatToken.{PatToken}
use Rattle.smpl_patch.specs.declared.pattern.Pattern.{Pattern}
use Rattle.smpl_patch.specs.declared.pattern.Spot.{Spot}
use Rattle.smpl_patch.specs.Held.{held}
use Rattle.smpl_patch.specs.Patterns.{is_own, is_sign_tree, is_sure, stands_in, in_first, sure, stands}
use Rattle.smpl_patch.proofs.SureLemmas.{sure_kids, sure-Leaf, sure-Branch}
use Rattle.ctl_formula.specs.Plain.{Plain}
use Rattle.ctl_formula.specs.declared.node.Node.{Node}
use Rattle.ctl_formula.specs.declared.node.Node.TheVariants as node
use Rattle.ctl_formula.specs.Tables.{at, plain_of, below}
use Rattle.ctl_formula.proofs.TableLemmas.{lt-true}
use Rattle.ctl_fixpoint.specs.CtlHolds.Parts.{EachPattern, OwnPattern}
use Rattle.ctl_fixpoint.specs.CtlHolds.BoundLaw.{SureStand}
use Rattle.ctl_fixpoint.proofs.CtlHolds.TestLemmas.{and_left, and_right, or_false, true_or_false, not_both, any_lacks, any_members}

module _ (decls : List VarDecl) (tokens : List PatToken) (x z : Var) where
  -- neither occurs in the tree
  abbrev Absent : Tree → Type 0
  Absent t = (list_any (is_own decls tokens x) (leaves t) ≡ false) × (list_any (is_own decls tokens z) (leaves t) ≡ false)

  abbrev Same : Tree → Type 0
  Same t = Absent t → is_sure decls tokens x t ≡ is_sure decls tokens z t

  abbrev none_in : (Token → Bool) → List Tree → Type 0
  none_in q cs = list_any q (join (map leaves cs)) ≡ false

  first_none : (q : Token → Bool) (c : Tree) (cs : List Tree) → none_in q (c ∷ cs)
      → (list_any q (leaves c) ≡ false) × none_in q cs
  first_none q c cs h = or_false _ _ (sym (list_any-append q (leaves c) (join (map leaves cs))) ∙ h)

  some_same : (cs : List Tree) → Each Same cs → none_in (is_own decls tokens x) cs → none_in (is_own decls tokens z) cs
      → list_any (λ c. is_sure decls tokens x c) cs ≡ list_any (λ c. is_sure decls tokens z c) cs
  some_same [] e h k = refl
  some_same (c ∷ cs) e h k =
      let a = first_none (is_own decls tokens x) c cs h in
      let b = first_none (is_own decls tokens z) c cs k in
      let here = e.0 (a.0, b.0) in
      let rest = some_same cs e.1 a.1 b.1 in
      cc

  every_same : (cs : List Tree) → Each Same cs → none_in (is_own decls tokens x) cs → none_in (is_own decls tokens z) cs
      → list_all (λ c. is_sign_tree c || is_sure decls tokens x c) cs
      ≡ list_all (λ c. is_sign_tree c || is_sure decls tokens z c) cs
  every_same [] e h k = refl
  every_same (c ∷ cs) e h k =
      let a = first_none (is_own decls tokens x) c cs h in
      let b = first_none (is_own decls tokens z) c cs k in
      let here = e.0 (a.0, b.0) in
      let rest = every_same cs e.1 a.1 b.1 in
      cc

  kids_same : (s : Shape) (cs : List Tree) → Each Same cs → none_in (is_own decls tokens x) cs
      → none_in (is_own decls tokens z) cs → sure_kids decls tokens x s cs ≡ sure_kids decls tokens z s cs
  kids_same shape.Or cs e h k = every_same cs e h k
  kids_same shape.And cs e h k = some_same cs e h k
  kids_same shape.List cs e h k = some_same cs e h k
  kids_same shape.Plain cs e h k = some_same cs e h k

  leaf_none : (q : Token → Bool) (a : Token) → list_any q (leaves (Leaf a)) ≡ false → q a ≡ false
  leaf_none q a h = (or_false (q a) false (sym (ap (list_any q) (leaves-Leaf a)) ∙ h)).0

  sure-absent : (t : Tree) → Same t
  sure-absent = tree_induction Same
      (λ a h. sure-Leaf decls tokens x a ∙ leaf_none (is_own decls tokens x) a h.0
      ∙ sym (leaf_none (is_own decls tokens z) a h.1) ∙ sym (sure-Leaf decls tokens z a))
      (λ l cs e h. sure-Branch decls tokens x l cs
      ∙ kids_same (shape_of l) cs e (sym (ap (list_any (is_own decls tokens x)) (leaves-Branch l cs)) ∙ h.0)
      (sym (ap (list_any (is_own decls tokens z)) (leaves-Branch l cs)) ∙ h.1)
      ∙ sym (sure-Branch decls tokens z l cs))

  held-absent : (ts : List Tree) → list_any (stands_in decls tokens x) ts ≡ false → list_any (stands_in decls tokens z) ts ≡ false
      → list_any (is_sure decls tokens x) ts ≡ list_any (is_sure decls tokens z) ts
  held-absent ts h k = any_members (is_sure decls tokens x) (is_sure decls tokens z) ts
      (λ t c. sure-absent t (any_lacks (stands_in decls tokens x) t ts c h, any_lacks (stands_in decls tokens z) t ts c k))

  first-absent : (s : Spot) (fs : List Tree)
      → in_first (λ f. list_any (stands_in decls tokens x) (held s f)) fs ≡ false
      → in_first (λ f. list_any (stands_in decls tokens z) (held s f)) fs ≡ false
      → in_first (λ f. list_any (is_sure decls tokens x) (held s f)) fs
      ≡ in_first (λ f. list_any (is_sure decls tokens z) (held s f)) fs
  first-absent s [] h k = refl
  first-absent s (f ∷ fs) h k = held-absent (held s f) h k

pub stands_if : (decls : List VarDecl) (tokens : List PatToken) (p : Pattern) (z : Var)
    → sure decls tokens p z ≡ false → stands decls tokens p z ≡ false → SureStand decls tokens p
stands_if decls tokens p z h k x e = ⊎_elim
    (λ t. t)
    (λ f. not_both (sure decls tokens p x) e (first-absent decls tokens x z p.spot p.forms f k ∙ h))
    (true_or_false (stands decls tokens p x))

pub fst : (i j n : ℕ) → (nat_lt i n && nat_lt j n) ≡ true → i < n
fst i j n h = lt-true i n (and_left (nat_lt i n) (nat_lt j n) h)

pub snd : (i j n : ℕ) → (nat_lt i n && nat_lt j n) ≡ true → j < n
snd i j n h = lt-true j n (and_right (nat_lt i n) (nat_lt j n) h)

-- a node of a table over parts that have it
pub each_step : (P : Pattern → Type 0) (n : Node) (fs : List Plain) (len : ℕ) → below len n ≡ true → OwnPattern P n
    → ((i : ℕ) → i < len → EachPattern P (at fs i)) → EachPattern P (plain_of fs n)
each_step P node.True fs len b o h = tt
each_step P (node.Atom p) fs len b o h = o
each_step P node.EarlyExit fs len b o h = tt
each_step P (node.BraceOpen p y) fs len b o h = o
each_step P (node.BraceClose p y) fs len b o h = o
each_step P (node.Inside y) fs len b o h = tt
each_step P (node.Outside y) fs len b o h = tt
each_step P (node.Not i) fs len b o h = h i (lt-true i len b)
each_step P (node.And i j) fs len b o h = (h i (fst i j len b), h j (snd i j len b))
each_step P (node.Or i j) fs len b o h = (h i (fst i j len b), h j (snd i j len b))
each_step P (node.AX i) fs len b o h = h i (lt-true i len b)
each_step P (node.EX i) fs len b o h = h i (lt-true i len b)
each_step P (node.AU i j) fs len b o h = (h i (fst i j len b), h j (snd i j len b))
each_step P (node.EU i j) fs len b o h = (h i (fst i j len b), h j (snd i j len b))
each_step P (node.After i) fs len b o h = h i (lt-true i len b)
each_step P (node.InBranch y i) fs len b o h = h i (lt-true i len b)
each_step P (node.Exists x i) fs len b o h = h i (lt-true i len b)
