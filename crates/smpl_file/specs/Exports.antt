-- The variables that rules take from one another.
use Rattle.std.specs.Prelude.{ℕ, Option, None, Some, slice_get, ◌&&◌, not, Bool, if◌then◌else◌, List, [], ◌∷◌, ◌++◌}
use Rattle.std.specs.List.{list_any}
use Rattle.smpl_terms.specs.declared.var.Var.{Var as Variable}
use Rattle.smpl_terms.specs.Vars.{same_var}
use Rattle.smpl_patch.specs.declared.pattern.VarDecl.{VarDecl}
use Rattle.smpl_meta.specs.declared.head.RuleHead.{RuleHead}

-- what a declaration takes from other rules: the variable, if it is inherited, and the positions after its `!=`
abbrev pub taken_by : VarDecl → List Variable
taken_by d = (if d.inherited then d.var ∷ [] else []) ++ d.not_places

abbrev pub taken_by_all : List VarDecl → List Variable
taken_by_all [] = []
taken_by_all (d ∷ ds) = taken_by d ++ taken_by_all ds

-- all variables that rules of these heads take from other rules, which are earlier ones
abbrev pub taken : List RuleHead → List Variable
taken [] = []
taken (h ∷ hs) = taken_by_all h.vars ++ taken hs

-- what the rule with a given number takes
abbrev pub taken_of : Option RuleHead → List Variable
taken_of None = []
taken_of (Some h) = taken_by_all h.vars

abbrev pub taken_at : List RuleHead → ℕ → List Variable
taken_at heads rule = taken_of (slice_get heads rule)

abbrev pub has_var : List Variable → Variable → Bool
has_var vs x = list_any (λ v. same_var v x) vs

-- one of the rule's own variables that is among these
abbrev pub is_exported : List Variable → VarDecl → Bool
is_exported vs d = not d.inherited && has_var vs d.var

-- the rule's own variables that are among those that rules take, in declared order
abbrev pub exports_of : List Variable → List VarDecl → List Variable
exports_of vs [] = []
exports_of vs (d ∷ ds) = if is_exported vs d then d.var ∷ exports_of vs ds else exports_of vs ds
