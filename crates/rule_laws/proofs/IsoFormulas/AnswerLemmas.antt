-- What formulas take from a pattern with all forms is what they take from the original pattern: its first form doesn't
-- change.
use Rattle.std.proofs.Common.{◌≡◌, Bool, refl, ap, Some, List, [], ◌∷◌}
use Rattle.std.specs.Prelude.{slice_get}
use Rattle.std.specs.List.{list_any}
use Rattle.c_terms.specs.declared.tree.Tree.{Tree, out-Tree}
use Rattle.smpl_terms.specs.declared.var.Var.{Var}
use Rattle.smpl_patch.specs.declared.pattern.VarDecl.{VarDecl}
use Rattle.smpl_patch.specs.declared.pattern.PatToken.{PatToken}
use Rattle.smpl_patch.specs.declared.pattern.Pattern.{Pattern}
use Rattle.smpl_patch.specs.declared.rule.Iso.{Iso}
use Rattle.smpl_patch.specs.Held.{held}
use Rattle.smpl_patch.specs.Patterns.{in_first, stands_in, used_in, is_sure, stands, used, sure, is_statement_tree, is_statement}
use Rattle.iso_expand.specs.Bodies.{forms_of_first, expanded_pattern}

-- the first form of a pattern stays the first
abbrev pub FirstStays : Type 0
FirstStays = (isos : List Iso) (tokens : List PatToken) (p : Pattern) (t : Tree) → slice_get p.forms 0 ≡ Some t
    → slice_get (expanded_pattern isos tokens p).forms 0 ≡ Some t

of-first : (test : Tree → Bool) (fs : List Tree) (t : Tree) → slice_get fs 0 ≡ Some t → in_first test fs ≡ test t
of-first test [] t e = absurd cc
of-first test (f ∷ fs) t e = let same : f ≡ t = cc in ap test same

module _ (first : FirstStays) (isos : List Iso) (words : List PatToken) where
  in-first-same : (test : Tree → Bool) (p : Pattern) → in_first test (expanded_pattern isos words p).forms ≡ in_first test p.forms
  in-first-same test p = by p.forms
    where
      by : (fs : List Tree) → in_first test (forms_of_first isos words fs) ≡ in_first test fs
      by [] = refl
      by (t ∷ ts) =
          let whole : Pattern = record { atom = p.atom; spot = p.spot; forms = t ∷ ts } in
          of-first test (forms_of_first isos words (t ∷ ts)) t (first isos words whole t refl)

  pub stands-same : (decls : List VarDecl) (tokens : List PatToken) (p : Pattern) (x : Var)
      → stands decls tokens (expanded_pattern isos words p) x ≡ stands decls tokens p x
  stands-same decls tokens p x = in-first-same (λ f. list_any (stands_in decls tokens x) (held p.spot f)) p

  pub used-same : (decls : List VarDecl) (tokens : List PatToken) (p : Pattern) (x : Var)
      → used decls tokens (expanded_pattern isos words p) x ≡ used decls tokens p x
  used-same decls tokens p x = in-first-same (λ f. list_any (used_in decls tokens x) (held p.spot f)) p

  pub sure-same : (decls : List VarDecl) (tokens : List PatToken) (p : Pattern) (x : Var)
      → sure decls tokens (expanded_pattern isos words p) x ≡ sure decls tokens p x
  sure-same decls tokens p x = in-first-same (λ f. list_any (is_sure decls tokens x) (held p.spot f)) p

  pub statement-same : (p : Pattern) → is_statement (expanded_pattern isos words p) ≡ is_statement p
  statement-same p = in-first-same (λ t. is_statement_tree (out-Tree t)) p
