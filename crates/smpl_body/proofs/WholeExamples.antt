-- Two whole bodies: a name is one pattern, and dots alone are at an edge.
use Rattle.std.proofs.Common.{◌≡◌, ◌≤◌, ℕ, false, arith, refl, sym, ◌∙◌, [], ◌∷◌, inl, inr, codes}
use Rattle.std.specs.Prelude.{IsTrue}
use Rattle.c_terms.specs.declared.token.TokenKind.TheVariants as kind
use Rattle.c_terms.specs.declared.tree.Tree.{Tree}
use Rattle.c_terms.specs.declared.tree.Tree.TheVariants.{Leaf}
use Rattle.c_terms.specs.Names.{listed_names}
use Rattle.c_terms.specs.Trees.{levels}
use Rattle.c_terms.proofs.TreeLemmas.{levels-Leaf, levels-Branch}
use Rattle.c_terms.proofs.SameLemmas.{out-Leaf, out-Branch}
use Rattle.c_rows.specs.declared.rule.Rule.TheVariants as rule
use Rattle.c_rows.specs.Branches.{build}
use Rattle.c_rows.specs.Depth.{opens_from, opens_of}
use Rattle.c_rows.specs.Look.{look}
use Rattle.c_rows.specs.Derives.{leaf, branch, word, fork, done}
use Rattle.c_rows.specs.Trees.{NoRival}
use Rattle.c_rows.proofs.DerivesLemmas.{tree_first}
use Rattle.smpl_patch.specs.declared.pattern.Spot.TheVariants as spot
use Rattle.smpl_patch.specs.declared.elem.Dots.{Dots}
use Rattle.smpl_patch.specs.declared.elem.Elem.{Elem}
use Rattle.smpl_patch.specs.declared.elem.Elem.TheVariants as elem
use Rattle.smpl_patch.specs.declared.fault.PatchFault.TheVariants.{DotsAtEdge}
use Rattle.smpl_meta.specs.declared.patterns.Placed.{Placed}
use Rattle.smpl_body.specs.SmplWhen.Cutting.{cut}
use Rattle.smpl_body.specs.SmplElem.Elements.{atoms, elements, pattern}
use Rattle.smpl_body.proofs.SmplElem.CountLemmas.{elements-row}
use Rattle.smpl_body.specs.declared.reading.Form.TheVariants as form
use Rattle.smpl_body.specs.Spelled.{IsTree, NoTree}
use Rattle.smpl_body.specs.Bodies.{Spells, body_dots, starts_from, IsBody, IsBodyFault, misplaced}
use Rattle.smpl_body.proofs.EdgeLemmas.{edges-Leaf, edges-Branch, dots-Leaf, dots-Branch}

few : (n : ℕ) → n ≡ 0 → n ≤ 200
few n e = omega arith

low : (n k : ℕ) → n ≡ k → k ≤ 1 → n ≤ 1000
low n k e h = omega arith

-- ---- `...`

abbrev dots : Placed
dots = record { token = record { kind = kind.Dots; text = codes "..."; id = 0 }; at = 5; sign = 32; line = 0; positions = [] }

abbrev list : Tree
list = build rule.StmtList (Leaf dots.token ∷ [])

no_expression : NoTree form.Expression (dots.token ∷ [])
unfolding look
no_expression t is = let h : IsTrue false = tree_first listed_names (NoRival listed_names 1) is.spells.derived refl in let never : ⊥ = cc in never

list_levels : levels list ≡ 1
list_levels = simp (levels-Branch, levels-Leaf)

statements : IsTree form.Statements (dots.token ∷ []) list
unfolding look opens_from
statements = record {
  shallow = few (opens_of (dots.token ∷ [])) refl;
  spells = record {
    derived = branch rule.StmtList refl refl refl (fork 2 refl refl (word refl (fork 2 refl refl done)));
    shallow = low (levels list) 1 list_levels (omega arith);
  };
  is_form = tt;
}

spells : Spells (dots ∷ []) list []
spells = record { clauses = refl; body = inr (no_expression, inl statements); code = tt; fit = simp (dots-Leaf, dots-Branch) }

dots_alone : IsBodyFault (dots ∷ []) 9 (DotsAtEdge 5)
dots_alone = misplaced refl list [] spells (simp (out-Leaf, out-Branch, edges-Leaf, edges-Branch))

-- ---- `a`

abbrev name : Placed
name = record { token = record { kind = kind.Name; text = codes "a"; id = 0 }; at = 5; sign = 32; line = 0; positions = [] }

expression : IsTree form.Expression (name.token ∷ []) (Leaf name.token)
unfolding look opens_from
expression = record {
  shallow = few (opens_of (name.token ∷ [])) refl;
  spells = record { derived = leaf refl; shallow = low (levels (Leaf name.token)) 0 (levels-Leaf name.token) (omega arith) };
  is_form = tt;
}

abbrev atom : Elem
atom = elem.Atom (pattern 0 spot.Inside (Leaf name.token))

one_element : (of : ℕ → Dots) → elements of 0 (Leaf name.token) ≡ atom ∷ []
one_element of = elements-row (Leaf name.token) of 0 ∙ simp out-Leaf

one_name : IsBody (name ∷ []) (atom ∷ [])
one_name = record {
  shallow = refl;
  tree = Leaf name.token;
  codes = [];
  spells = record { clauses = refl; body = inl expression; code = tt; fit = simp dots-Leaf };
  faultless = simp (out-Leaf, edges-Leaf, dots-Leaf);
  are = sym (one_element (body_dots (cut (name ∷ [])).said [] (starts_from (atoms (Leaf name.token)) [])));
}
