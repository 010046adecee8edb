-- Each word that a formula needs occurs in the first form of some pattern of its table.
use Rattle.std.proofs.Common.{◌≡◌, ℕ, zero, suc, Bool, true, false, ◌&&◌, sym, ap, ◌∙◌, List, [], ◌∷◌, ◌++◌, length, ⊎_elim, if◌then◌else◌}
use Rattle.std.specs.List.{list_any, list_all}
use Rattle.c_terms.specs.declared.label.Label.{Label}
use Rattle.c_terms.specs.declared.shape.Shape.{Shape}
use Rattle.c_terms.specs.declared.shape.Shape.TheVariants as shape
use Rattle.c_terms.specs.Shapes.{shape_of}
use Rattle.c_terms.specs.declared.tree.Tree.{Tree}
use Rattle.c_terms.specs.declared.tree.Tree.TheVariants.{Leaf, Branch}
use Rattle.c_terms.proofs.SameLemmas.{out-Leaf, out-Branch}
use Rattle.c_terms.proofs.Induct.{Each, tree_induction, tree_cases}
use Rattle.smpl_patch.specs.declared.pattern.Pattern.{Pattern}
use Rattle.smpl_patch.specs.declared.pattern.Spot.{Spot}
use Rattle.smpl_patch.specs.Held.{is_split_into_nodes, is_held, kept, held_at}
use Rattle.smpl_patch.specs.Patterns.{in_first}
use Rattle.ctl_formula.specs.Plain.{Plain}
use Rattle.ctl_formula.specs.declared.node.Node.{Node}
use Rattle.ctl_formula.specs.declared.node.Node.TheVariants as node
use Rattle.ctl_formula.specs.Tables.{at, plain_of, plains_from, plains}
use Rattle.ctl_fixpoint.specs.RequiredWords.Words.{has_form, has_word, spells, held_spells, spelled, needs}
use Rattle.ctl_fixpoint.specs.RequiredWords.Standing.{stands, stands_at}
use Rattle.ctl_fixpoint.proofs.RequiredWords.WordLemmas.{and_left, or_cases, or_left, or_right, or_nothing, word-Leaf, word-kid}
use Rattle.ctl_fixpoint.proofs.RequiredWords.WordLemmas.{spells_kids, spells-Leaf, spells-Branch}

module _ (w : List ℕ) where
  -- what a form spells is one of its tokens

  abbrev Own : Tree → Type 0
  Own t = spells w t ≡ true → has_word w t ≡ true

  kids_own : (cs : List Tree) → Each Own cs → list_any (λ t. spells w t) cs ≡ true → list_any (has_word w) cs ≡ true
  kids_own [] e h = absurd (cc)
  kids_own (c ∷ cs) e h = ⊎_elim
      (λ a. or_left _ _ (e.0 a))
      (λ a. or_right _ _ (kids_own cs e.1 a))
      (or_cases (spells w c) (list_any (λ t. spells w t) cs) h)

  some_kid : (s : Shape) (cs : List Tree) → spells_kids w s cs ≡ true → list_any (λ t. spells w t) cs ≡ true
  some_kid shape.Or cs h = and_left _ _ h
  some_kid shape.And cs h = h
  some_kid shape.List cs h = h
  some_kid shape.Plain cs h = h

  spells_own : (t : Tree) → Own t
  spells_own = tree_induction Own
      (λ a h. word-Leaf w a ∙ sym (spells-Leaf w a) ∙ h)
      (λ l cs e h. word-kid w l cs (kids_own cs e (some_kid (shape_of l) cs (sym (spells-Branch w l cs) ∙ h))))

  kept_own : (test : ℕ → Bool) (i : ℕ) (cs : List Tree) → list_any (λ t. spells w t) (kept test i cs) ≡ true → list_any (has_word w) cs ≡ true
  kept_own test i [] h = absurd (cc)
  kept_own test i (c ∷ cs) h = by (test i) (kept_own test (suc i) cs) h
    where
      by : (b : Bool) → (list_any (λ t. spells w t) (kept test (suc i) cs) ≡ true → list_any (has_word w) cs ≡ true)
          → list_any (λ t. spells w t) (if b then c ∷ kept test (suc i) cs else kept test (suc i) cs) ≡ true
          → list_any (has_word w) (c ∷ cs) ≡ true
      by true more h = ⊎_elim (λ a. or_left _ _ (spells_own c a)) (λ a. or_right _ _ (more a))
          (or_cases (spells w c) (list_any (λ t. spells w t) (kept test (suc i) cs)) h)
      by false more h = or_right _ _ (more h)

  branch_own : (s : Spot) (l : Label) (cs : List Tree) (b : Bool)
      → list_any (λ t. spells w t) (if b then kept (is_held s l (length cs)) 0 cs else Branch l cs ∷ []) ≡ true
      → has_word w (Branch l cs) ≡ true
  branch_own s l cs true h = word-kid w l cs (kept_own (is_held s l (length cs)) 0 cs h)
  branch_own s l cs false h = spells_own (Branch l cs) (sym (or_nothing (spells w (Branch l cs))) ∙ h)

  held_own : (s : Spot) (form : Tree) → held_spells w s form ≡ true → has_word w form ≡ true
  held_own s = tree_cases (λ form. held_spells w s form ≡ true → has_word w form ≡ true)
      (λ a h. spells_own (Leaf a) (sym (or_nothing (spells w (Leaf a)))
      ∙ sym (ap (λ y. list_any (λ t. spells w t) (held_at s y (Leaf a))) (out-Leaf a)) ∙ h))
      (λ l cs h. branch_own s l cs (is_split_into_nodes s l) (sym (ap (λ y. list_any (λ t. spells w t) (held_at s y (Branch l cs))) (out-Branch l cs)) ∙ h))

  forms_stand : (s : Spot) (fs : List Tree) → (has_form fs && list_all (held_spells w s) fs) ≡ true → in_first (has_word w) fs ≡ true
  forms_stand s [] h = absurd (cc)
  forms_stand s (f ∷ fs) h = held_own s f (and_left (held_spells w s f) (list_all (held_spells w s) fs) h)

  spelled_stands : (p : Pattern) → spelled w p ≡ true → stands w p ≡ true
  spelled_stands p h = forms_stand p.spot p.forms h

  -- tables

  -- the claim follows for a part that needs the word
  abbrev Known : Type 0 → List Plain → Type 0
  Known Q fs = (i : ℕ) → needs w (at fs i) ≡ true → Q

  node_needs : (Q : Type 0) (fs : List Plain) (n : Node) → (stands_at w n ≡ true → Q) → Known Q fs → needs w (plain_of fs n) ≡ true → Q
  node_needs Q fs node.True s k h = absurd (cc)
  node_needs Q fs (node.Atom p) s k h = s (spelled_stands p h)
  node_needs Q fs node.EarlyExit s k h = absurd (cc)
  node_needs Q fs (node.BraceOpen p b) s k h = s (spelled_stands p h)
  node_needs Q fs (node.BraceClose p b) s k h = s (spelled_stands p h)
  node_needs Q fs (node.Inside b) s k h = absurd (cc)
  node_needs Q fs (node.Outside b) s k h = absurd (cc)
  node_needs Q fs (node.Not i) s k h = absurd (cc)
  node_needs Q fs (node.And i j) s k h = ⊎_elim (λ a. k i a) (λ a. k j a) (or_cases (needs w (at fs i)) (needs w (at fs j)) h)
  node_needs Q fs (node.Or i j) s k h = k i (and_left (needs w (at fs i)) (needs w (at fs j)) h)
  node_needs Q fs (node.AX i) s k h = k i h
  node_needs Q fs (node.EX i) s k h = k i h
  node_needs Q fs (node.AU i j) s k h = k j h
  node_needs Q fs (node.EU i j) s k h = k j h
  node_needs Q fs (node.After i) s k h = k i h
  node_needs Q fs (node.InBranch b i) s k h = k i h
  node_needs Q fs (node.Exists x i) s k h = k i h

  known_push : (Q : Type 0) (fs : List Plain) (f : Plain) → Known Q fs → (needs w f ≡ true → Q) → Known Q (fs ++ f ∷ [])
  known_push Q [] f k h zero e = h e
  known_push Q [] f k h (suc i) e = absurd (cc)
  known_push Q (x ∷ fs) f k h zero e = k zero e
  known_push Q (x ∷ fs) f k h (suc i) e = known_push Q fs f (λ j a. k (suc j) a) h i e

  all_known : (Q : Type 0) (fs : List Plain) (ns : List Node) → Known Q fs → (list_any (stands_at w) ns ≡ true → Q) → Known Q (plains_from fs ns)
  all_known Q fs [] k h = k
  all_known Q fs (n ∷ ns) k h =
      all_known Q (fs ++ plain_of fs n ∷ []) ns
      (known_push Q fs (plain_of fs n) k (node_needs Q fs n (λ s. h (or_left _ _ s)) k))
      (λ a. h (or_right (stands_at w n) _ a))

  pub needed_stands : (ns : List Node) (i : ℕ) → needs w (at (plains ns) i) ≡ true → list_any (stands_at w) ns ≡ true
  needed_stands ns = all_known (list_any (stands_at w) ns ≡ true) [] ns (λ i e. absurd (cc)) (λ h. h)
