-- The facts of a tree are those computed from its parts.
use Rattle.std.proofs.Common.{◌≡◌, List, [], ◌∷◌, map, refl, ap, sym, ◌∙◌}
use Rattle.std.specs.Prelude.{Bool, true, false, not, ◌&&◌, if◌then◌else◌}
use Rattle.std.specs.List.{list_all}
use Rattle.c_terms.specs.declared.token.Token.{Token}
use Rattle.c_terms.specs.declared.label.Label.{Label}
use Rattle.c_terms.specs.declared.label.Label.TheVariants as label
use Rattle.c_terms.specs.declared.tree.Tree.{Tree, out-Tree}
use Rattle.c_terms.specs.declared.tree.Tree.TheVariants.{Leaf, rolls-Leaf}
use Rattle.c_terms.specs.declared.tree.Tree.TheFolds.{fold-roll-Tree}
use Rattle.c_terms.proofs.SameLemmas.{out-Leaf, out-Branch}
use Rattle.c_rows.specs.declared.facts.Facts.{Facts}
use Rattle.c_rows.specs.declared.labels.Naming.{Naming}
use Rattle.c_rows.specs.declared.labels.Naming.TheVariants as naming
use Rattle.c_rows.specs.declared.rule.Rule.{Rule}
use Rattle.c_rows.specs.declared.rule.Rule.TheVariants as rule
use Rattle.c_rows.specs.Labels.{branches_label, labelled, is_block_label, is_blockless, named}
use Rattle.c_rows.specs.Rows.{naming_of, label_of, build}
use Rattle.c_rows.specs.Branches.{allows, defines, is_loose_label, plain_part, plain_at, declares_at, declares_name}
use Rattle.c_rows.specs.Branches.{function_at, function_step, declares_function}
use Rattle.c_rows.specs.Facts.{facts_of, leaf_facts, branch_facts, allows_facts}
use Rattle.c_rows.proofs.PlainLemmas.{declares-Leaf, declares-Branch, function-Branch}

-- ---- the label

-- two labels of branches of which the same is required
record Alike (l m : Label) : Type 0 where
  defined : defines l ≡ defines m
  loose : is_loose_label l ≡ is_loose_label m
  block : is_block_label l ≡ is_block_label m
  names : (bs : List Bool) → declares_at l bs ≡ declares_at m bs
  functions : (bs : List Bool) → function_at l bs ≡ function_at m bs

same : (l : Label) → Alike l l
same l = record { defined = refl; loose = refl; block = refl; names = λ bs. refl; functions = λ bs. refl }

dull : (b : Bool) (l m n : Label) → Alike l n → Alike m n → Alike (if b then l else m) n
dull true l m n f g = f
dull false l m n f g = g

pat : Alike label.PatOr label.PatAnd
pat = record { defined = refl; loose = refl; block = refl; names = λ bs. refl; functions = λ bs. refl }

at_one : Alike label.At label.AtRange
at_one = record { defined = refl; loose = refl; block = refl; names = λ bs. refl; functions = λ bs. refl }

if_one : Alike label.If label.IfElse
if_one = record { defined = refl; loose = refl; block = refl; names = λ bs. refl; functions = λ bs. refl }

case_one : Alike label.Case label.CaseRange
case_one = record { defined = refl; loose = refl; block = refl; names = λ bs. refl; functions = λ bs. refl }

for_one : Alike label.ForDecl label.For
for_one = record { defined = refl; loose = refl; block = refl; names = λ bs. refl; functions = λ bs. refl }

fun_one : Alike label.FunDef label.Decl
fun_one = record { defined = refl; loose = refl; block = refl; names = λ bs. refl; functions = λ bs. refl }

macro_one : Alike label.MacroFun label.MacroItem
macro_one = record { defined = refl; loose = refl; block = refl; names = λ bs. refl; functions = λ bs. refl }

branches : (cs : List Tree) → Alike (branches_label cs) label.PatAnd
branches [] = same label.PatAnd
branches (a ∷ []) = same label.PatAnd
branches (a ∷ b ∷ []) = same label.PatAnd
branches (a ∷ b ∷ c ∷ cs) = dull _ label.PatOr label.PatAnd label.PatAnd pat (same label.PatAnd)

-- if the parts of a branch determine its label, that changes nothing that is required of the branch
alike_named : (n : Naming) (cs : List Tree) → Alike (named n cs) (named n [])
alike_named naming.PatBySign cs = branches cs
alike_named naming.AtByRange [] = same label.AtRange
alike_named naming.AtByRange (a ∷ []) = same label.AtRange
alike_named naming.AtByRange (a ∷ b ∷ []) = same label.AtRange
alike_named naming.AtByRange (a ∷ b ∷ c ∷ []) = at_one
alike_named naming.AtByRange (a ∷ b ∷ c ∷ d ∷ cs) = same label.AtRange
alike_named naming.IfByElse [] = same label.IfElse
alike_named naming.IfByElse (a ∷ []) = same label.IfElse
alike_named naming.IfByElse (a ∷ b ∷ []) = same label.IfElse
alike_named naming.IfByElse (a ∷ b ∷ c ∷ []) = same label.IfElse
alike_named naming.IfByElse (a ∷ b ∷ c ∷ d ∷ []) = same label.IfElse
alike_named naming.IfByElse (a ∷ b ∷ c ∷ d ∷ e ∷ []) = if_one
alike_named naming.IfByElse (a ∷ b ∷ c ∷ d ∷ e ∷ f ∷ cs) = same label.IfElse
alike_named naming.CaseByRange [] = same label.CaseRange
alike_named naming.CaseByRange (a ∷ []) = same label.CaseRange
alike_named naming.CaseByRange (a ∷ b ∷ []) = same label.CaseRange
alike_named naming.CaseByRange (a ∷ b ∷ c ∷ []) = case_one
alike_named naming.CaseByRange (a ∷ b ∷ c ∷ d ∷ cs) = same label.CaseRange
alike_named naming.ForByDecl [] = same label.For
alike_named naming.ForByDecl (a ∷ []) = same label.For
alike_named naming.ForByDecl (a ∷ b ∷ []) = same label.For
alike_named naming.ForByDecl (a ∷ b ∷ c ∷ cs) = dull _ label.ForDecl label.For label.For for_one (same label.For)
alike_named naming.DeclByBlock [] = same label.Decl
alike_named naming.DeclByBlock (a ∷ []) = same label.Decl
alike_named naming.DeclByBlock (a ∷ b ∷ []) = same label.Decl
alike_named naming.DeclByBlock (a ∷ b ∷ c ∷ []) = dull _ label.FunDef label.Decl label.Decl fun_one (same label.Decl)
alike_named naming.DeclByBlock (a ∷ b ∷ c ∷ d ∷ cs) = same label.Decl
alike_named naming.MacroByBlock cs = dull (is_blockless cs) label.MacroItem label.MacroFun label.MacroItem (same label.MacroItem) macro_one
alike_named (naming.Always l) cs = same l

alike : (r : Rule) (cs : List Tree) → Alike (label_of r cs) (label_of r [])
alike r cs = alike_named (naming_of r) cs

-- ---- the facts of trees

abbrev facts : Bool → Bool → Bool → Bool → Bool → Bool → Facts
facts a b c d e f = record { plain = a; plain_parts = b; names = c; functions = d; loose = e; block = f }

facts_same : {a b c d e f a' b' c' d' e' f' : Bool} → a ≡ a' → b ≡ b' → c ≡ c' → d ≡ d' → e ≡ e' → f ≡ f' → facts a b c d e f ≡ facts a' b' c' d' e' f'
facts_same p q r s t u = cc

function-Leaf : (t : Token) → declares_function (Leaf t) ≡ false
function-Leaf t = ap declares_function (sym (rolls-Leaf t)) ∙ fold-roll-Tree Bool function_step _

pub leaf_same : (t : Token) → leaf_facts t ≡ facts_of (Leaf t)
leaf_same t =
    let o = out-Leaf t in
    facts_same (sym (ap plain_part o)) (sym (ap plain_at o)) (sym (declares-Leaf t)) (sym (function-Leaf t))
    (sym (ap (labelled is_loose_label) o)) (sym (ap (labelled is_block_label) o))

all_same : (cs : List Tree) → list_all (λ (f : Facts). f.plain) (map facts_of cs) ≡ list_all (λ part. plain_part (out-Tree part)) cs
all_same [] = refl
all_same (c ∷ cs) = ap (λ (b : Bool). plain_part (out-Tree c) && b) (all_same cs)

names_same : (cs : List Tree) → map (λ (f : Facts). f.names) (map facts_of cs) ≡ map declares_name cs
names_same [] = refl
names_same (c ∷ cs) = ap (λ (bs : List Bool). declares_name c ∷ bs) (names_same cs)

functions_same : (cs : List Tree) → map (λ (f : Facts). f.functions) (map facts_of cs) ≡ map declares_function cs
functions_same [] = refl
functions_same (c ∷ cs) = ap (λ (bs : List Bool). declares_function c ∷ bs) (functions_same cs)

-- The facts of a branch are determined by those of its parts.
pub branch_same : (r : Rule) (cs : List Tree) → branch_facts r (map facts_of cs) ≡ facts_of (build r cs)
branch_same r cs =
    let a = alike r cs in
    let l : Label = label_of r cs in
    let o = out-Branch l cs in
    facts_same (ap not (sym a.defined) ∙ sym (ap plain_part o)) (all_same cs ∙ sym (ap plain_at o))
    (ap (declares_at (label_of r [])) (names_same cs) ∙ sym (a.names (map declares_name cs)) ∙ sym (declares-Branch l cs))
    (ap (function_at (label_of r [])) (functions_same cs) ∙ sym (a.functions (map declares_function cs)) ∙ sym (function-Branch l cs))
    (sym a.loose ∙ sym (ap (labelled is_loose_label) o)) (sym a.block ∙ sym (ap (labelled is_block_label) o))

-- Whether a row allows its parts is determined by their facts.
pub allows_same : (r : Rule) (cs : List Tree) → allows_facts r (map facts_of cs) ≡ allows r cs
allows_same rule.TypeName [] = refl
allows_same rule.TypeName (a ∷ []) = refl
allows_same rule.TypeName (a ∷ b ∷ []) = refl
allows_same rule.TypeName (a ∷ b ∷ c ∷ cs) = refl
allows_same rule.Case [] = refl
allows_same rule.Case (a ∷ []) = refl
allows_same rule.Case (a ∷ b ∷ []) = refl
allows_same rule.Case (a ∷ b ∷ c ∷ []) = refl
allows_same rule.Case (a ∷ b ∷ c ∷ d ∷ cs) = refl
allows_same rule.External [] = refl
allows_same rule.External (a ∷ []) = refl
allows_same rule.External (a ∷ b ∷ []) = refl
allows_same rule.External (a ∷ b ∷ c ∷ []) = refl
allows_same rule.External (a ∷ b ∷ c ∷ d ∷ cs) = refl
allows_same _ cs = refl
