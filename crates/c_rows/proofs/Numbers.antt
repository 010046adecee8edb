-- The classes and the rules, numbered as they are declared: a test of the list of all of them tests each one.
use Rattle.std.proofs.Common.{◌≡◌, ℕ, List, [], ◌∷◌, refl}
use Rattle.std.specs.Prelude.{◌++◌, Some, slice_get}
use denote.Enum.Declared.{tag_of}
use Rattle.c_rows.specs.contracts.rule.Rule as contracts
use Rattle.c_rows.specs.declared.class.Class.{Class}
use Rattle.c_rows.specs.declared.class.Class.TheVariants as class
use Rattle.c_rows.specs.declared.kind.Family.{Family}
use Rattle.c_rows.specs.declared.kind.Family.TheVariants as family
use Rattle.c_rows.specs.declared.rule.Rule.{Rule}
use Rattle.c_rows.specs.declared.rule.Rule.TheVariants as rule
use Rattle.c_rows.specs.Words.{number}
use Rattle.c_rows.specs.Rows.{heads, tails}
use Rattle.c_rows.specs.Choice.{classes}

pub listed : (c : Class) → slice_get classes (number c) ≡ Some c
listed class.End = refl
listed _ = refl

abbrev families : List Family
families =
    family.Expression ∷ family.Args ∷ family.TypeArg ∷ family.TypeName ∷ family.Specs ∷ family.Tag ∷ family.Field ∷ family.MacroItem
    ∷ family.NamelessBits ∷ family.Declarator ∷ family.Params ∷ family.Param ∷ family.InitList ∷ family.InitItem ∷ family.Designator
    ∷ family.Enumerator ∷ family.Decl ∷ family.Statement ∷ family.StmtList ∷ family.External ∷ []

abbrev rules_of : List Family → List Rule
rules_of [] = []
rules_of (f ∷ fs) = heads f ++ (tails f ++ rules_of fs)

-- all rules, in the order in which they are declared
abbrev pub rules : List Rule
rules = rules_of families

abbrev pub rule_number : Rule → ℕ
rule_number r = tag_of contracts.the_type r

pub rule_listed : (r : Rule) → slice_get rules (rule_number r) ≡ Some r
rule_listed rule.Strings = refl
rule_listed _ = refl
