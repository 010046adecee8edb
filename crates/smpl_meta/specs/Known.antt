-- What earlier rules and `virtual` lines have.
use Rattle.std.specs.Prelude.{ℕ, ◌+◌, if◌then◌else◌, List, [], ◌∷◌, Option, Some, None, option_and_then}
use Rattle.std.specs.Str.{bytes_eq}
use Rattle.c_terms.specs.Numbers.{meta_number}
use Rattle.smpl_patch.specs.declared.pattern.VarDecl.{VarDecl}
use Rattle.smpl_patch.specs.declared.pattern.VarKind.{VarKind}
use Rattle.smpl_patch.specs.declared.pattern.VarKind.TheVariants.{Meta, Position}
use Rattle.smpl_meta.specs.declared.head.RuleHead.{RuleHead}

-- the first rule with a given name
abbrev pub head_named : List ℕ → List RuleHead → Option RuleHead
head_named name [] = None
head_named name (h ∷ hs) = if bytes_eq h.name name then Some h else head_named name hs

-- its number, if the first rule has the number n
abbrev pub number_from : ℕ → List ℕ → List RuleHead → Option ℕ
number_from n name [] = None
number_from n name (h ∷ hs) = if bytes_eq h.name name then Some n else number_from (n + 1) name hs

abbrev pub var_named : List ℕ → List VarDecl → Option VarDecl
var_named name [] = None
var_named name (d ∷ ds) = if bytes_eq d.var.name name then Some d else var_named name ds

-- the variable x of the rule r
abbrev pub var_of : List RuleHead → List ℕ → List ℕ → Option VarDecl
var_of earlier r x = option_and_then (λ h. var_named x h.vars) (head_named r earlier)

abbrev pub kind_number : VarKind → ℕ
kind_number (Meta k) = meta_number k
kind_number Position = 7
