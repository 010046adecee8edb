-- The report of a file: one line for each rule of the patch, and under it the rule's witnesses, each with its variables and
-- its forest.
use Rattle.std.specs.Prelude.{ℕ, zero, suc, ◌+◌, Bool, ◌||◌, eqb, List, [], ◌∷◌, ◌++◌, Option, None, Some, if◌then◌else◌, codes}
use Rattle.std.specs.Fmt.{decimal}
use Rattle.std.specs.List.{filter, flat_map, list_any}
use Rattle.c_terms.specs.Same.{same_bytes}
use Rattle.outer_io.specs.EscapedNames.Escapes.{escaped_name}
use Rattle.c_show.specs.Show.{show_of}
use Rattle.smpl_terms.specs.declared.var.Var.{Var}
use Rattle.smpl_terms.specs.declared.value.Value.{Value}
use Rattle.smpl_terms.specs.declared.value.Value.TheVariants.{Term, Place}
use Rattle.smpl_terms.specs.Environments.{value_in}
use Rattle.smpl_patch.specs.declared.pattern.VarDecl.{VarDecl}
use Rattle.smpl_patch.specs.declared.rule.Rule.{Rule}
use Rattle.smpl_patch.specs.declared.rule.Patch.{Patch}
use Rattle.smpl_patch.specs.declared.witness.Witness.{Witness}
use Rattle.smpl_patch.specs.declared.witness.Witness.TheOpen.{Witness-F}
use Rattle.smpl_patch.specs.declared.witness.Witness.TheFolds.{fold-Witness}
use Rattle.smpl_patch.specs.declared.witness.RuleWitness.{RuleWitness}

abbrev pub line : List ℕ → List ℕ
line text = text ++ codes "\n"

-- ---- values and places

-- a term written out, or `#` and the id of a token
abbrev pub value_text : Value → List ℕ
value_text (Term t) = show_of t
value_text (Place id) = codes "#" ++ decimal id

-- child numbers after the first
abbrev pub steps_text : List ℕ → List ℕ
steps_text = flat_map (λ n. codes "." ++ decimal n)

-- child numbers separated by dots; `-` if there are none
abbrev pub path_text : List ℕ → List ℕ
path_text [] = codes "-"
path_text (n ∷ ns) = decimal n ++ steps_text ns

-- ---- forests

abbrev pub touch_line : (node atom : ℕ) → (path : List ℕ) → List ℕ
touch_line node atom path = line (codes "touch " ++ decimal node ++ codes " " ++ decimal atom ++ codes " " ++ path_text path)

abbrev pub bind_line : ℕ → Var → Value → List ℕ
bind_line node x value = line (codes "bind " ++ decimal node ++ codes " " ++ x.name ++ codes " = " ++ value_text value)

-- the lines of a tree of witnesses; the first line begins with these blanks, and the lines under it with one more
abbrev pub tree_step : Witness-F (List ℕ → List ℕ) → List ℕ → List ℕ
tree_step (Witness-F.Touch node atom path) blanks = blanks ++ touch_line node atom path
tree_step (Witness-F.Bind node x value under) blanks = blanks ++ bind_line node x value ++ flat_map (λ f. f (blanks ++ codes " ")) under

abbrev pub tree_lines : Witness → List ℕ → List ℕ
tree_lines = fold-Witness (List ℕ → List ℕ) tree_step

-- ---- variables

-- the rule inherits the variable, or later rules inherit it
abbrev pub is_reported : List Var → VarDecl → Bool
is_reported exports d = d.inherited || list_any (λ x. same_bytes x.name d.var.name) exports

-- the name of the rule with this number
abbrev pub rule_name : List Rule → ℕ → List ℕ
rule_name [] n = []
rule_name (r ∷ rs) zero = r.name
rule_name (r ∷ rs) (suc n) = rule_name rs n

-- an inherited variable is prefixed with the name of its rule
abbrev pub reported_name : List Rule → VarDecl → List ℕ
reported_name rules d = (if d.inherited then rule_name rules d.var.rule ++ codes "." else []) ++ d.var.name

abbrev pub let_text : List Rule → VarDecl → Option Value → List ℕ
let_text rules d None = []
let_text rules d (Some value) = line (codes " let " ++ reported_name rules d ++ codes " = " ++ value_text value)

abbrev pub let_lines : List Rule → List VarDecl → List (Var × Value) → List ℕ
let_lines rules vars env = flat_map (λ d. let_text rules d (value_in env d.var)) vars

-- ---- witnesses, rules, the file

abbrev pub witness_lines : List Rule → List VarDecl → RuleWitness → List ℕ
witness_lines rules vars w =
    line (codes "at " ++ decimal w.item ++ codes " " ++ decimal w.node)
    ++ let_lines rules vars w.env
    ++ flat_map (λ f. tree_lines f (codes " ")) w.forest

-- `-` for a rule without a name
abbrev pub shown_name : List ℕ → List ℕ
shown_name [] = codes "-"
shown_name (b ∷ bs) = b ∷ bs

abbrev pub rule_lines : List Rule → ℕ → Rule → List RuleWitness → List ℕ
rule_lines rules n rule own =
    line (codes "rule " ++ decimal n ++ codes " " ++ shown_name rule.name)
    ++ flat_map (witness_lines rules (filter (is_reported rule.exports) rule.vars)) own

-- the rules from number n on
abbrev pub rules_lines : List Rule → List RuleWitness → ℕ → List Rule → List ℕ
rules_lines all witnesses n [] = []
rules_lines all witnesses n (r ∷ rs) = rule_lines all n r (filter (λ w. eqb w.rule n) witnesses) ++ rules_lines all witnesses (n + 1) rs

abbrev pub report_of : Patch → List ℕ → List RuleWitness → List ℕ
report_of patch name witnesses = line (codes "file " ++ escaped_name name) ++ rules_lines patch.rules witnesses 0 patch.rules
