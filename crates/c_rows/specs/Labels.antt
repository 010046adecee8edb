-- The labels of branches, as their parts determine them.
use Rattle.std.specs.Prelude.{ℕ, Bool, true, false, not, if◌then◌else◌, List, [], ◌∷◌, codes}
use Rattle.std.specs.List.{list_all}
use Rattle.std.specs.Str.{bytes_eq}
use Rattle.c_terms.specs.declared.label.Label.{Label}
use Rattle.c_terms.specs.declared.label.Label.TheVariants as label
use Rattle.c_terms.specs.declared.tree.Tree.{Tree, out-Tree}
use Rattle.c_terms.specs.declared.tree.Tree.TheOpen.{Tree-F}
use Rattle.c_rows.specs.declared.labels.Naming.{Naming}
use Rattle.c_rows.specs.declared.labels.Naming.TheVariants as naming

abbrev pub text_is : List ℕ → Tree-F Tree → Bool
text_is s (Tree-F.Leaf t) = bytes_eq t.text s
text_is s (Tree-F.Branch l cs) = false

-- Branches of a pattern are a PatOr if `\|` separates them, and a PatAnd if `\&` does.
abbrev pub branches_label : List Tree → Label
branches_label (a ∷ b ∷ c ∷ cs) = if text_is (codes "\\|") (out-Tree c) then label.PatOr else label.PatAnd
branches_label _ = label.PatAnd

-- `[a]` is an At, `[a ... b]` an AtRange.
abbrev pub at_label : List Tree → Label
at_label (a ∷ b ∷ c ∷ []) = label.At
at_label _ = label.AtRange

-- With an `else`, an If is an IfElse.
abbrev pub if_label : List Tree → Label
if_label (a ∷ b ∷ c ∷ d ∷ e ∷ []) = label.If
if_label _ = label.IfElse

-- `case a :` is a Case, `case a ... b :` a CaseRange.
abbrev pub case_label : List Tree → Label
case_label (a ∷ b ∷ c ∷ []) = label.Case
case_label _ = label.CaseRange

-- whether the tree is a branch whose label passes the test
abbrev pub labelled : (Label → Bool) → Tree-F Tree → Bool
labelled p (Tree-F.Leaf t) = false
labelled p (Tree-F.Branch l cs) = p l

abbrev pub is_decl_label : Label → Bool
is_decl_label label.Decl = true
is_decl_label _ = false

-- With a declaration in its brackets, a For is a ForDecl.
abbrev pub for_label : List Tree → Label
for_label (a ∷ b ∷ c ∷ cs) = if labelled is_decl_label (out-Tree c) then label.ForDecl else label.For
for_label _ = label.For

abbrev pub is_block_label : Label → Bool
is_block_label label.Block = true
is_block_label _ = false

-- Type words, a declarator and a Block are a FunDef; anything else after type words is a Decl.
abbrev pub external_label : List Tree → Label
external_label (a ∷ b ∷ c ∷ []) = if labelled is_block_label (out-Tree c) then label.FunDef else label.Decl
external_label _ = label.Decl

abbrev pub is_blockless : List Tree → Bool
is_blockless = list_all (λ c. not (labelled is_block_label (out-Tree c)))

-- With a Block, a macro's item is a MacroFun.
abbrev pub macro_label : List Tree → Label
macro_label cs = if is_blockless cs then label.MacroItem else label.MacroFun

-- the label of a branch with these children that is named in this way
abbrev pub named : Naming → List Tree → Label
named (naming.Always l) cs = l
named naming.PatBySign cs = branches_label cs
named naming.AtByRange cs = at_label cs
named naming.IfByElse cs = if_label cs
named naming.CaseByRange cs = case_label cs
named naming.ForByDecl cs = for_label cs
named naming.DeclByBlock cs = external_label cs
named naming.MacroByBlock cs = macro_label cs
