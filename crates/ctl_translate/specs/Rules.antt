-- The formula of a rule, and why it has no usable one.
use Rattle.std.specs.Prelude.{Bool, true, false, not, ◌&&◌, if◌then◌else◌, Option, None, Some, List, [], ◌∷◌, map}
use Rattle.std.specs.List.{filter, list_any}
use Rattle.smpl_terms.specs.declared.var.Var.{Var}
use Rattle.smpl_patch.specs.declared.pattern.VarDecl.{VarDecl}
use Rattle.smpl_patch.specs.declared.rule.Rule.{Rule}
use Rattle.smpl_patch.specs.declared.rule.Mode.{Mode}
use Rattle.smpl_patch.specs.declared.rule.Mode.TheVariants as mode
use Rattle.smpl_terms.specs.Vars.{same_var}
use Rattle.smpl_patch.specs.Patterns as patterns
use Rattle.smpl_patch.specs.Bodies.{body}
use Rattle.ctl_formula.specs.Plain.{Plain}
use Rattle.ctl_formula.specs.Bounds.{bound, guarded_for}
use Rattle.pattern_vars.specs.VarPlaces.Placing.{Reading}
use Rattle.ctl_table.specs.Table.{formula}

abbrev pub reading : Rule → Reading
reading r = record {
  stands = patterns.stands r.vars r.tokens;
  used = patterns.used r.vars r.tokens;
  is_statement = patterns.is_statement;
}

abbrev pub ranges_over_all : Mode → Bool
ranges_over_all mode.Exists = false
ranges_over_all mode.Forall = true

abbrev pub is_exported : Rule → Var → Bool
is_exported r x = list_any (λ y. same_var y x) r.exports

-- the variables that are quantified somewhere, if they occur in the body: neither exported nor inherited
abbrev pub locals : Rule → List Var
locals r = map (λ d. d.var) (filter (λ d. not d.inherited && not (is_exported r d.var)) r.vars)

-- the formula of a rule
abbrev pub formula_of : Rule → Plain
formula_of r = formula (reading r) (ranges_over_all r.mode) (locals r) (body r.body)

-- there is a way in which the formula under a quantifier of x holds while x has no value; for an exported x, a way in
-- which the whole formula holds
abbrev pub is_unbound : Rule → VarDecl → Bool
is_unbound r d =
    not d.inherited
    && (if is_exported r d.var then not (bound (patterns.sure r.vars r.tokens) (formula_of r) d.var)
    else not (guarded_for (patterns.sure r.vars r.tokens) d.var (formula_of r)))

abbrev pub first_unbound_from : Rule → List VarDecl → Option Var
first_unbound_from r [] = None
first_unbound_from r (d ∷ ds) = if is_unbound r d then Some d.var else first_unbound_from r ds

-- the first variable in declared order that may stay unbound
abbrev pub first_unbound : Rule → Option Var
first_unbound r = first_unbound_from r r.vars
