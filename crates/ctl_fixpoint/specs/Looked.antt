-- The looks of an atom's pattern.
use Rattle.std.specs.Prelude.{List, ⊤}
use Rattle.ctl_formula.specs.declared.node.Node.{Node}
use Rattle.ctl_formula.specs.declared.node.Node.TheVariants as node
use Rattle.ctl_fixpoint.specs.declared.required_words.form_groups.FormGroup.{FormGroup}
use Rattle.ctl_fixpoint.specs.RequiredWords.FormGroups.{AreFormGroups}

-- the looks are those of the part's pattern, if it has one
abbrev pub AreFormGroupsOf : Node → List FormGroup → Type 0
AreFormGroupsOf (node.Atom p) form_groups = AreFormGroups p form_groups
AreFormGroupsOf (node.BraceOpen p b) form_groups = AreFormGroups p form_groups
AreFormGroupsOf (node.BraceClose p b) form_groups = AreFormGroups p form_groups
AreFormGroupsOf _ form_groups = ⊤
