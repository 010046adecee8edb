-- The elements of a tree. Their patterns are numbered consecutively: in a compound the head, then its bodies, then the
-- tail; in a block the `{`, then what it holds, then the `}`.
use Rattle.std.specs.Prelude.{ℕ, ◌+◌, Bool, if◌then◌else◌, List, [], ◌∷◌, ◌++◌, map, length, Option, None, Some}
use Rattle.c_terms.specs.declared.label.Label.{Label}
use Rattle.c_terms.specs.declared.tree.Tree.{Tree}
use Rattle.c_terms.specs.declared.tree.Tree.TheOpen.{Tree-F}
use Rattle.c_terms.specs.declared.tree.Tree.TheVariants.{Leaf, Branch}
use Rattle.c_terms.specs.declared.tree.Tree.TheFolds.{fold-Tree}
use Rattle.c_terms.specs.Trees.{join}
use Rattle.smpl_patch.specs.declared.pattern.Spot.{Spot}
use Rattle.smpl_patch.specs.declared.pattern.Spot.TheVariants as spot
use Rattle.smpl_patch.specs.declared.pattern.Pattern.{Pattern}
use Rattle.smpl_patch.specs.declared.elem.Dots.{Dots}
use Rattle.smpl_patch.specs.declared.elem.Elem.{Elem}
use Rattle.smpl_patch.specs.declared.elem.Elem.TheVariants as elem
use Rattle.smpl_body.specs.declared.smpl_elem.form.Form.{Form}
use Rattle.smpl_body.specs.declared.smpl_elem.form.Form.TheVariants as form
use Rattle.smpl_body.specs.SmplElem.Forms.{form_at, kids, label_at, is_part, before, after, first_kid, last_kid, id_at, is_more, masked}

-- a tree as a sequence: a list of statements is one, and anything else a sequence of one element
pub record Part : Type 0 where
  pub tree : Tree
  -- the number of its patterns
  pub atoms : ℕ
  -- its elements, by what the clauses of tokens say, if the first pattern has this number
  pub seq : (ℕ → Dots) → ℕ → List Elem

-- the children that are parts, the first of which is child i
abbrev pub picked : Form → Label → (n i : ℕ) → List Part → List Part
picked f l n i [] = []
picked f l n i (p ∷ ps) = if is_part f l n i p.tree then p ∷ picked f l n (i + 1) ps else picked f l n (i + 1) ps

-- the number of patterns of all parts
abbrev pub total : List Part → ℕ
total [] = 0
total (p ∷ ps) = p.atoms + total ps

-- each part as a sequence
abbrev pub seqs : (ℕ → Dots) → ℕ → List Part → List (List Elem)
seqs dots n [] = []
seqs dots n (p ∷ ps) = p.seq dots n ∷ seqs dots (n + p.atoms) ps

abbrev pub pattern : ℕ → Spot → Tree → Pattern
pattern n s t = record { atom = n; spot = s; forms = t ∷ [] }

-- The elements of a tree of this form whose parts are these sequences, between its patterns with the numbers n and m.
abbrev pub made : Form → (ℕ → Dots) → Tree → (n : ℕ) → List (List Elem) → (m : ℕ) → List Elem
made form.Gap dots t n parts m = elem.Gap (dots (id_at t)) ∷ []
made form.Expression dots t n parts m = elem.Atom (pattern n spot.Inside t) ∷ []
made form.Plain dots t n parts m = elem.Atom (pattern n spot.Whole t) ∷ []
made form.List dots t n parts m = join parts
made form.Block dots t n parts m =
    elem.Block (pattern n spot.Whole (first_kid (kids t))) (join parts) (pattern m spot.Whole (last_kid (kids t))) ∷ []
made form.Nest dots t n parts m = elem.Nest (is_more (first_kid (kids t))) (join parts) (dots (id_at (last_kid (kids t)))) ∷ []
made form.AnyOf dots t n parts m = elem.AnyOf parts ∷ []
made form.AllOf dots t n parts m = elem.AllOf parts ∷ []
made form.Head dots t n parts m = elem.Compound (pattern n spot.Whole (masked spot.Whole t)) parts None ∷ []
made form.Do dots t n parts m =
    elem.Compound (pattern n spot.Whole (masked spot.Whole t)) parts (Some (pattern m spot.Tail (masked spot.Tail t))) ∷ []

abbrev pub row : Form → Tree → List Part → Part
row f t ps = record {
  tree = t;
  atoms = before f + total ps + after f;
  seq = λ dots n. made f dots t n (seqs dots (n + before f) ps) (n + before f + total ps);
}

abbrev pub row_of : Tree → List Part → Part
row_of t ps = row (form_at t) t (picked (form_at t) (label_at t) (length ps) 0 ps)

abbrev pub part_step : Tree-F Part → Part
part_step (Tree-F.Leaf a) = row_of (Leaf a) []
part_step (Tree-F.Branch l ps) = row_of (Branch l (map (λ (p : Part). p.tree) ps)) ps

abbrev pub part : Tree → Part
part = fold-Tree Part part_step

-- the number of patterns in a tree
abbrev pub atoms : Tree → ℕ
atoms t = (part t).atoms

-- the elements of a tree
abbrev pub elements : (ℕ → Dots) → ℕ → Tree → List Elem
elements dots n t = (part t).seq dots n
