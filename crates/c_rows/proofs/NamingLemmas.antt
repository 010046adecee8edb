-- A label that the parts of a branch determine is one of two: it passes any test that both pass.
use Rattle.std.proofs.Common.{◌≡◌, List, [], ◌∷◌}
use Rattle.std.specs.Prelude.{Bool, true, false, ◌&&◌, IsTrue, if◌then◌else◌}
use Rattle.c_terms.specs.declared.label.Label.{Label}
use Rattle.c_terms.specs.declared.label.Label.TheVariants as label
use Rattle.c_terms.specs.declared.tree.Tree.{Tree, out-Tree}
use Rattle.c_rows.specs.declared.labels.Naming.{Naming}
use Rattle.c_rows.specs.declared.labels.Naming.TheVariants as naming
use Rattle.c_rows.specs.declared.rule.Rule.{Rule}
use Rattle.c_rows.specs.Labels.{named, text_is, labelled, is_decl_label, is_block_label, is_blockless}
use Rattle.c_rows.specs.Rows.{naming_of, label_of}
use Rattle.c_rows.proofs.FirstChecks.{and_left, and_right}

abbrev pub one_label : Naming → Label
one_label (naming.Always l) = l
one_label naming.PatBySign = label.PatOr
one_label naming.AtByRange = label.At
one_label naming.IfByElse = label.If
one_label naming.CaseByRange = label.Case
one_label naming.ForByDecl = label.ForDecl
one_label naming.DeclByBlock = label.FunDef
one_label naming.MacroByBlock = label.MacroItem

abbrev pub other_label : Naming → Label
other_label (naming.Always l) = l
other_label naming.PatBySign = label.PatAnd
other_label naming.AtByRange = label.AtRange
other_label naming.IfByElse = label.IfElse
other_label naming.CaseByRange = label.CaseRange
other_label naming.ForByDecl = label.For
other_label naming.DeclByBlock = label.Decl
other_label naming.MacroByBlock = label.MacroFun

-- whether both labels of a rule's branches pass the test
abbrev pub both_pass : (Label → Bool) → Rule → Bool
both_pass p r = p (one_label (naming_of r)) && p (other_label (naming_of r))

module _ (p : Label → Bool) where
  one_of : (b : Bool) (l m : Label) → IsTrue (p l && p m) → IsTrue (p (if b then l else m))
  one_of true l m h = and_left (p l) (p m) h
  one_of false l m h = and_right (p l) (p m) h

  named_passes : (n : Naming) (cs : List Tree) → IsTrue (p (one_label n) && p (other_label n)) → IsTrue (p (named n cs))
  named_passes (naming.Always l) cs h = and_left (p l) (p l) h
  named_passes naming.PatBySign (a ∷ b ∷ c ∷ cs) h = one_of (text_is _ (out-Tree c)) label.PatOr label.PatAnd h
  named_passes naming.PatBySign _ h = and_right (p label.PatOr) (p label.PatAnd) h
  named_passes naming.AtByRange (a ∷ b ∷ c ∷ []) h = and_left (p label.At) (p label.AtRange) h
  named_passes naming.AtByRange _ h = and_right (p label.At) (p label.AtRange) h
  named_passes naming.IfByElse (a ∷ b ∷ c ∷ d ∷ e ∷ []) h = and_left (p label.If) (p label.IfElse) h
  named_passes naming.IfByElse _ h = and_right (p label.If) (p label.IfElse) h
  named_passes naming.CaseByRange (a ∷ b ∷ c ∷ []) h = and_left (p label.Case) (p label.CaseRange) h
  named_passes naming.CaseByRange _ h = and_right (p label.Case) (p label.CaseRange) h
  named_passes naming.ForByDecl (a ∷ b ∷ c ∷ cs) h = one_of (labelled is_decl_label (out-Tree c)) label.ForDecl label.For h
  named_passes naming.ForByDecl _ h = and_right (p label.ForDecl) (p label.For) h
  named_passes naming.DeclByBlock (a ∷ b ∷ c ∷ []) h = one_of (labelled is_block_label (out-Tree c)) label.FunDef label.Decl h
  named_passes naming.DeclByBlock _ h = and_right (p label.FunDef) (p label.Decl) h
  named_passes naming.MacroByBlock cs h = one_of (is_blockless cs) label.MacroItem label.MacroFun h

  pub label_passes : (r : Rule) (cs : List Tree) → IsTrue (both_pass p r) → IsTrue (p (label_of r cs))
  label_passes r cs h = named_passes (naming_of r) cs h
