-- The tokens of a graph's labels are among the item's: a word that the item lacks is missing from each label.
use Rattle.std.proofs.Common.{◌≡◌, ℕ, zero, suc, ◌+◌, Bool, true, false, cond, sym, ◌∙◌, subst, List, [], ◌∷◌, ◌++◌, map, length, Some}
use Rattle.std.specs.Prelude.{slice_get}
use Rattle.std.specs.List.{list_any}
use Rattle.c_terms.specs.declared.label.Label.{Label}
use Rattle.c_terms.specs.declared.label.Label.TheVariants as label
use Rattle.c_terms.specs.declared.tree.Tree.{Tree}
use Rattle.c_terms.specs.declared.tree.Tree.TheVariants.{Leaf, Branch}
use Rattle.c_terms.proofs.Induct.{Each, tree_induction}
use Rattle.cfg_build.specs.declared.cfg_graph.label.NodeLabel.{NodeLabel}
use Rattle.cfg_build.specs.Forms.{form_of, is_part}
use Rattle.cfg_build.specs.Rows.{Node, Told, Part, picked, nodes_in, inside, end_nodes, row, part, size}
use Rattle.cfg_build.specs.Graphs.{outermost, exit_node, nodes_of, graph_of}
use Rattle.cfg_build.proofs.PartLemmas.{at_leaf, part-Branch, part-tree}
use Rattle.ctl_fixpoint.specs.RequiredWords.Words.{has_word}
use Rattle.ctl_fixpoint.proofs.RequiredWords.WordLemmas.{or_no_left, or_no_right, word-Branch}

module _ (w : List ℕ) where
  abbrev Lacks : Tree → Type 0
  Lacks t = has_word w t ≡ false

  kids_lack : (cs : List Tree) → list_any (has_word w) cs ≡ false → Each Lacks cs
  kids_lack [] h = tt
  kids_lack (c ∷ cs) h = (or_no_left _ _ h, kids_lack cs (or_no_right _ _ h))

  abbrev AllLack : List Node → Type 0
  AllLack [] = Unit {0}
  AllLack (n ∷ ns) = Lacks n.label.tree × AllLack ns

  both_lack : (xs ys : List Node) → AllLack xs → AllLack ys → AllLack (xs ++ ys)
  both_lack [] ys h k = k
  both_lack (x ∷ xs) ys h k = (h.0, both_lack xs ys h.1 k)

  abbrev Own : Part → Type 0
  Own q = Lacks q.tree → (a : Told) → AllLack (q.nodes a)

  abbrev AllOwn : List (ℕ × Part) → Type 0
  AllOwn [] = Unit {0}
  AllOwn (q ∷ qs) = (Lacks q.1.tree × Own q.1) × AllOwn qs

  parts_lack : (l : Label) (a : Told) (at : ℕ) (qs : List (ℕ × Part)) → AllOwn qs → AllLack (nodes_in (form_of l) a at qs)
  parts_lack l a at [] h = tt
  parts_lack l a at (q ∷ qs) h =
      both_lack (q.1.nodes (inside (form_of l) a q.0 q.1.tree at (at + q.1.size))) (nodes_in (form_of l) a (at + q.1.size) qs)
      (h.0.1 h.0.0 (inside (form_of l) a q.0 q.1.tree at (at + q.1.size))) (parts_lack l a (at + q.1.size) qs h.1)

  end_lacks : (l : Label) (t : Tree) (a : Told) → Lacks t → AllLack (end_nodes (form_of l) t a)
  end_lacks label.Block t a h = (h, tt)
  end_lacks label.Do t a h = (h, tt)
  end_lacks _ t a h = tt

  row_lacks : (l : Label) (t : Tree) (qs : List (ℕ × Part)) → (Lacks t → AllOwn qs) → Own (row (form_of l) t qs)
  row_lacks l t qs from h a =
      (h, both_lack (nodes_in (form_of l) a (a.at + 1) qs) (end_nodes (form_of l) t a) (parts_lack l a (a.at + 1) qs (from h)) (end_lacks l t a h))

  abbrev PartLacks : Tree → Type 0
  PartLacks t = Own (part t)

  picked_lack : (l : Label) (n i : ℕ) (cs : List Tree) → Each PartLacks cs → Each Lacks cs → AllOwn (picked (form_of l) n i (map part cs))
  picked_lack l n i [] e h = tt
  picked_lack l n i (c ∷ cs) e h = by (is_part (form_of l) n i) (picked_lack l n (suc i) cs e.1 h.1)
    where
      by : (b : Bool) → AllOwn (picked (form_of l) n (suc i) (map part cs))
          → AllOwn (cond b ((i, part c) ∷ picked (form_of l) n (suc i) (map part cs)) (picked (form_of l) n (suc i) (map part cs)))
      by true r = ((subst Lacks (sym (part-tree c)) h.0, e.0), r)
      by false r = r

  -- the form of a list of statements is that of a token: it has no parts
  part_lacks : (t : Tree) → PartLacks t
  part_lacks = tree_induction PartLacks
      (λ a. subst Own (sym (at_leaf a)) (row_lacks label.StmtList (Leaf a) [] (λ h. tt)))
      (λ l cs e. subst Own (sym (part-Branch l cs))
      (row_lacks l (Branch l cs) (picked (form_of l) (length cs) 0 (map part cs))
      (λ h. picked_lack l (length cs) 0 cs e (kids_lack cs (sym (word-Branch w l cs) ∙ h)))))

  nodes_lack : (t : Tree) → Lacks t → AllLack (nodes_of t)
  nodes_lack t h =
      both_lack ((part t).nodes (outermost (part t))) (exit_node (size t) ∷ [])
      (part_lacks t (subst Lacks (sym (part-tree t)) h) (outermost (part t)))
      (word-Branch w label.StmtList [], tt)

  label_at : (ns : List Node) (n : ℕ) (l : NodeLabel) → AllLack ns → slice_get (map (λ (m : Node). m.label) ns) n ≡ Some l → Lacks l.tree
  label_at [] n l h e = absurd (cc)
  label_at (m ∷ ns) zero l h e = let s : m.label ≡ l = cc in subst (λ (k : NodeLabel). Lacks k.tree) s h.0
  label_at (m ∷ ns) (suc n) l h e = label_at ns n l h.1 e

  pub labels_lack : (t : Tree) → has_word w t ≡ false → (n : ℕ) (l : NodeLabel) → slice_get (graph_of t).labels n ≡ Some l
      → has_word w l.tree ≡ false
  labels_lack t h n l e = label_at (nodes_of t) n l (nodes_lack t h) e
