-- The first fault of small patches, above all those for which two orders differ.
use Rattle.std.proofs.Common.{◌≡◌, Bool, true, false, refl, List, [], ◌∷◌, None, Some}
use Rattle.std.specs.Prelude.{codes}
use Rattle.c_terms.specs.declared.token.TokenKind.TheVariants as token
use Rattle.c_terms.specs.declared.token.MetaKind.TheVariants as meta
use Rattle.smpl_terms.specs.declared.var.Var.{Var}
use Rattle.smpl_patch.specs.declared.pattern.Mark.TheVariants as mark
use Rattle.smpl_patch.specs.declared.pattern.VarKind.TheVariants as var_kind
use Rattle.smpl_patch.specs.declared.pattern.VarDecl.{VarDecl}
use Rattle.smpl_patch.specs.declared.pattern.PatToken.{PatToken}
use Rattle.smpl_patch.specs.declared.rule.Dep.{Dep}
use Rattle.smpl_patch.specs.declared.rule.Mode.TheVariants as mode
use Rattle.smpl_patch.specs.declared.rule.Rule.{Rule}
use Rattle.smpl_patch.specs.declared.rule.Patch.{Patch}
use Rattle.smpl_patch.specs.declared.fault.PatchFault.TheVariants as fault
use Rattle.smpl_patch.specs.Wants.{anything}
use Rattle.smpl_file.specs.SmplCheck.Checks.{first_fault}

abbrev x : Var
x = record { rule = 0; name = codes "x" }

abbrev y : Var
y = record { rule = 0; name = codes "y" }

abbrev declared : Bool → Var → VarDecl
declared inherited v = record { var = v; kind = var_kind.Meta meta.Expr; inherited = inherited; not_names = []; not_places = []; wanted = anything }

-- a token with plus code that shows x
abbrev shows_x : PatToken
shows_x = record {
  mark = mark.Context;
  positions = [];
  before = None;
  after = Some (record {
    many = false;
    lines = record { lead = 0; tokens = record { kind = token.Meta meta.Expr; text = codes "x"; id = 0 } ∷ []; gaps = [] ∷ [] } ∷ [];
  });
}

-- a rule whose body contains no variable
abbrev rule : Dep → List VarDecl → List Var → List PatToken → Rule
rule d vars exports tokens = record { name = []; depends = d; mode = mode.Exists; vars = vars; exports = exports; body = []; tokens = tokens }

abbrev patch : List Rule → Patch
patch rules = record { virtuals = []; rules = rules }

-- for one variable the fault of plus code comes first, although x, which a later rule inherits, may stay unbound too
plus_code_first : (d : Dep) → first_fault (patch (rule d (declared false x ∷ []) (x ∷ []) (shows_x ∷ []) ∷ [])) ≡ Some (fault.UnboundInPlus x)
plus_code_first d = refl

-- of two variables the one declared first comes first, whatever its fault
earlier_variable_first : (d : Dep) → first_fault
    (patch (rule d (declared false y ∷ declared false x ∷ []) (y ∷ []) (shows_x ∷ []) ∷ [])) ≡ Some (fault.MayStayUnbound y)
earlier_variable_first d = refl

-- an inherited variable has no fault of its own
inherited_is_fine : (d : Dep) → first_fault (patch (rule d (declared true x ∷ []) [] (shows_x ∷ []) ∷ [])) ≡ None
inherited_is_fine d = refl

-- neither does one that occurs nowhere and isn't exported
unused_is_fine : (d : Dep) → first_fault (patch (rule d (declared false x ∷ []) [] [] ∷ [])) ≡ None
unused_is_fine d = refl

-- the first rule's fault comes before the next rule's
earlier_rule_first : (d : Dep)
    → first_fault (patch (rule d (declared false y ∷ []) (y ∷ []) [] ∷ rule d (declared false x ∷ []) [] (shows_x ∷ []) ∷ [])) ≡ Some (fault.MayStayUnbound y)
earlier_rule_first d = refl
