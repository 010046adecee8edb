-- The formula of a rule with all forms, and the faults of such a rule's meaning.
use Rattle.std.proofs.Common.{◌≡◌, ℕ, suc, Bool, false, not, ◌&&◌, refl, ap, ap₂, ◌∙◌, Option, None, Some, List, [], ◌∷◌, map, if◌then◌else◌}
use Rattle.std.specs.List.{filter, list_any}
use Rattle.smpl_terms.specs.declared.var.Var.{Var}
use Rattle.smpl_terms.specs.Vars.{same_var}
use Rattle.smpl_patch.specs.declared.pattern.VarDecl.{VarDecl}
use Rattle.smpl_patch.specs.declared.pattern.PatToken.{PatToken}
use Rattle.smpl_patch.specs.declared.pattern.Pattern.{Pattern}
use Rattle.smpl_patch.specs.declared.fault.PatchFault.{PatchFault}
use Rattle.smpl_patch.specs.declared.fault.PatchFault.TheVariants as fault
use Rattle.smpl_patch.specs.declared.rule.Iso.{Iso}
use Rattle.smpl_patch.specs.declared.rule.Mode.{Mode}
use Rattle.smpl_patch.specs.declared.rule.Rule.{Rule}
use Rattle.smpl_patch.specs.Patterns as patterns
use Rattle.smpl_patch.specs.Bodies.{Body, body}
use Rattle.ctl_formula.specs.Plain.{Plain, fits}
use Rattle.ctl_formula.specs.Bounds.{bound, guarded_for}
use Rattle.pattern_vars.specs.VarPlaces.Placing.{Reading, any_body}
use Rattle.ctl_table.specs.Table.{formula}
use Rattle.ctl_translate.specs.Rules.{ranges_over_all, formula_of, is_unbound}
use Rattle.smpl_file.specs.SmplCheck.Checks.{in_plus_code, in_pattern, is_unbound_in_plus, fault_of_var, or_later, fault_of_vars, fault_of_rule, fault_from}
use Rattle.iso_expand.specs.Bodies.{expanded_pattern}
use Rattle.iso_expand.specs.Patches.{IsExpandedRule, AreExpanded}
use Rattle.rule_laws.specs.IsoFormulas.Formulas.{expanded_formula}
use Rattle.rule_laws.proofs.IsoFormulas.AnswerLemmas.{FirstStays, stands-same, used-same, sure-same, statement-same}
use Rattle.rule_laws.proofs.IsoFormulas.PlacingLemmas.{Agree, any-body}
use Rattle.rule_laws.proofs.IsoFormulas.TableLemmas.{formula-image}
use Rattle.rule_laws.proofs.IsoFormulas.BoundLemmas.{fits-same, bound-same, guarded-same}

-- what the formula of a rule is made of
abbrev reading_by : List VarDecl → List PatToken → Reading
reading_by decls tokens = record {
  stands = patterns.stands decls tokens;
  used = patterns.used decls tokens;
  is_statement = patterns.is_statement;
}

abbrev locals_by : List VarDecl → List Var → List Var
locals_by decls exports = map (λ d. d.var) (filter (λ d. not d.inherited && not (list_any (λ y. same_var y d.var) exports)) decls)

abbrev formula_by : List VarDecl → List Var → List PatToken → Mode → Body → Plain
formula_by decls exports tokens mode b = formula (reading_by decls tokens) (ranges_over_all mode) (locals_by decls exports) b

if-same : {A : Type 0} {b c : Bool} {x y u v : A} → b ≡ c → x ≡ y → u ≡ v → (if b then x else u) ≡ (if c then y else v)
if-same {A} {b} {c} {x} {y} {u} {v} e f g = ap (λ (z : Bool). if z then x else u) e ∙ ap₂ (λ (z w : A). if c then z else w) f g

module _ (first : FirstStays) (isos : List Iso) where
  agrees : (words tokens : List PatToken) (decls : List VarDecl) → Agree isos words (reading_by decls tokens) (reading_by decls tokens)
  agrees words tokens decls = record {
    stands = stands-same first isos words decls tokens;
    used = used-same first isos words decls tokens;
    statement = statement-same first isos words;
  }

  module _ (r s : Rule) (is : IsExpandedRule isos r s) where
    pub rule-formula : formula_of s ≡ expanded_formula isos r.tokens (formula_of r)
    rule-formula =
        ap₂ (λ (ds : List VarDecl) (xs : List Var). formula_by ds xs s.tokens s.mode (body s.body)) is.vars is.exports
        ∙ ap₂ (λ (ts : List PatToken) (m : Mode). formula_by r.vars r.exports ts m (body s.body)) is.tokens is.mode
        ∙ ap (formula_by r.vars r.exports r.tokens r.mode) is.body_is
        ∙ formula-image isos r.tokens (reading_by r.vars r.tokens) (reading_by r.vars r.tokens) (agrees r.tokens r.tokens r.vars)
        (ranges_over_all r.mode) (locals_by r.vars r.exports) (body r.body)

    stays-sure : (p : Pattern) (x : Var) → patterns.sure r.vars r.tokens (expanded_pattern isos r.tokens p) x ≡ patterns.sure r.vars r.tokens p x
    stays-sure = sure-same first isos r.tokens r.vars r.tokens

    pub rule-bound : (x : Var) → bound (patterns.sure s.vars s.tokens) (formula_of s) x ≡ bound (patterns.sure r.vars r.tokens) (formula_of r) x
    rule-bound x =
        ap₂ (λ (ds : List VarDecl) (ts : List PatToken). bound (patterns.sure ds ts) (formula_of s) x) is.vars is.tokens
        ∙ ap (λ (f : Plain). bound (patterns.sure r.vars r.tokens) f x) rule-formula
        ∙ bound-same isos r.tokens (patterns.sure r.vars r.tokens) (patterns.sure r.vars r.tokens) stays-sure (formula_of r) x

    rule-guarded : (x : Var)
        → guarded_for (patterns.sure s.vars s.tokens) x (formula_of s) ≡ guarded_for (patterns.sure r.vars r.tokens) x (formula_of r)
    rule-guarded x =
        ap₂ (λ (ds : List VarDecl) (ts : List PatToken). guarded_for (patterns.sure ds ts) x (formula_of s)) is.vars is.tokens
        ∙ ap (guarded_for (patterns.sure r.vars r.tokens) x) rule-formula
        ∙ guarded-same isos r.tokens (patterns.sure r.vars r.tokens) (patterns.sure r.vars r.tokens) stays-sure x (formula_of r)

    unbound-same : (d : VarDecl) → is_unbound s d ≡ is_unbound r d
    unbound-same d =
        ap (λ (b : Bool). not d.inherited && b)
        (if-same (ap (λ (xs : List Var). list_any (λ y. same_var y d.var) xs) is.exports) (ap not (rule-bound d.var))
        (ap not (rule-guarded d.var)))

    plus-same : (x : Var) → in_plus_code s x ≡ in_plus_code r x
    plus-same x =
        ap₂ (λ (ds : List VarDecl) (ts : List PatToken). list_any (λ t. patterns.in_plus ds (Some t) x) ts) is.vars is.tokens

    pattern-same : (x : Var) → in_pattern s x ≡ in_pattern r x
    pattern-same x =
        ap₂ (λ (ds : List VarDecl) (ts : List PatToken). any_body false (λ p. patterns.stands ds ts p x) (body s.body)) is.vars is.tokens
        ∙ ap (any_body false (λ p. patterns.stands r.vars r.tokens p x)) is.body_is
        ∙ any-body isos r.tokens (λ p. patterns.stands r.vars r.tokens p x) (λ p. patterns.stands r.vars r.tokens p x)
        (λ p. stands-same first isos r.tokens r.vars r.tokens p x) false (body r.body)

    plain-same : (d : VarDecl) → is_unbound_in_plus s d ≡ is_unbound_in_plus r d
    plain-same d = ap₂ (λ (a b : Bool). not d.inherited && (a && not b)) (plus-same d.var) (pattern-same d.var)

    var-same : (d : VarDecl) → fault_of_var s d ≡ fault_of_var r d
    var-same d =
        ap₂ (λ (a b : Bool). if a then Some (fault.UnboundInPlus d.var) else (if b then Some (fault.MayStayUnbound d.var) else None))
        (plain-same d) (unbound-same d)

    vars-same : (ds : List VarDecl) → fault_of_vars s ds ≡ fault_of_vars r ds
    vars-same [] = refl
    vars-same (d ∷ ds) = ap₂ or_later (var-same d) (vars-same ds)

    rule-same : (n : ℕ) → fault_of_rule n s ≡ fault_of_rule n r
    rule-same n =
        ap₂ (λ (b : Bool) (o : Option PatchFault). if b then o else Some (fault.TooLarge n))
        (ap fits rule-formula ∙ fits-same isos r.tokens (formula_of r))
        (ap (fault_of_vars s) is.vars ∙ vars-same r.vars)

  pub rules-same : (n : ℕ) (rs ss : List Rule) → AreExpanded isos rs ss → fault_from n ss ≡ fault_from n rs
  rules-same n [] [] are = refl
  rules-same n [] (s ∷ ss) are = absurd are
  rules-same n (r ∷ rs) [] are = absurd are
  rules-same n (r ∷ rs) (s ∷ ss) are = ap₂ or_later (rule-same r s are.0 n) (rules-same (suc n) rs ss are.1)
