-- What a patch finds in a generated text: the number of witnesses of each rule, and the length of the text that they leave.
use Rattle.std.specs.Prelude.{ℕ, ◌+◌, eqb, List, [], ◌∷◌, ◌++◌, length, codes}
use Rattle.std.specs.Fmt.{decimal}
use Rattle.std.specs.List.{filter}
use Rattle.smpl_patch.specs.declared.rule.Rule.{Rule}
use Rattle.smpl_patch.specs.declared.witness.RuleWitness.{RuleWitness}
use Rattle.wit_print.specs.Report.{shown_name}

abbrev pub count_of : ℕ → List RuleWitness → ℕ
count_of number witnesses = length (filter (λ w. eqb w.rule number) witnesses)

abbrev pub rule_line : ℕ → Rule → List RuleWitness → List ℕ
rule_line number rule witnesses =
    codes "rule " ++ decimal number ++ codes " " ++ shown_name rule.name ++ codes " witnesses " ++ decimal (count_of number witnesses) ++ codes "\n"

-- the lines of the rules, numbered from this number on
abbrev pub rule_lines : ℕ → List Rule → List RuleWitness → List ℕ
rule_lines number [] witnesses = []
rule_lines number (rule ∷ rules) witnesses = rule_line number rule witnesses ++ rule_lines (number + 1) rules witnesses

abbrev pub summary : List Rule → List RuleWitness → ℕ → List ℕ
summary rules witnesses bytes = rule_lines 0 rules witnesses ++ codes "bytes " ++ decimal bytes ++ codes "\n"
