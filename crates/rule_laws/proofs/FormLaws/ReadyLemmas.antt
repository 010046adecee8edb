-- A rule whose patterns have all forms has the properties of the original rule.
-- Proof: its formula is that of the rule with all forms, and the variables that occur in a pattern, and those that are sure
-- in it, don't change.
use Rattle.std.proofs.Common.{◌≡◌, ℕ, suc, ◌<◌, ◌&&◌, Bool, true, refl, sym, ap, ap₂, ◌∙◌, subst, arith, nat_lt, List, [], ◌∷◌, length}
use Rattle.std.specs.List.{list_all, flat_map, AllByRecursion}
use Rattle.std.proofs.lemmas.Bool.Decides.{nat_tests}
use Rattle.smpl_terms.specs.declared.var.Var.{Var}
use Rattle.smpl_patch.specs.declared.pattern.VarDecl.{VarDecl}
use Rattle.smpl_patch.specs.declared.pattern.PatToken.{PatToken}
use Rattle.smpl_patch.specs.declared.pattern.Pattern.{Pattern}
use Rattle.smpl_patch.specs.declared.rule.Iso.{Iso}
use Rattle.smpl_patch.specs.declared.rule.Rule.{Rule}
use Rattle.smpl_patch.specs.Patterns.{sure, stands}
use Rattle.ctl_formula.specs.Plain.{Plain, True, Atom, EarlyExit, BraceOpen, BraceClose, Inside, Outside, Not, And, Or, AX, EX}
use Rattle.ctl_formula.specs.Plain.{AU, EU, After, InBranch, Exists}
use Rattle.ctl_formula.specs.Bounds.{bound}
use Rattle.ctl_fixpoint.specs.CtlHolds.Parts.{EachPattern}
use Rattle.ctl_fixpoint.specs.CtlHolds.BoundLaw.{SureStand}
use Rattle.ctl_translate.specs.Rules.{formula_of}
use Rattle.edit_marks.specs.Edits.{HaveEvenBlocks}
use Rattle.rule_envs.specs.Inherited.{inherited_by}
use Rattle.iso_expand.specs.Bodies.{expanded_pattern}
use Rattle.iso_expand.specs.Patches.{IsExpandedRule, AreExpanded}
use Rattle.rule_laws.specs.IsoFormulas.Formulas.{expanded_formula}
use Rattle.rule_chain.specs.RuleMatches.Matching.{AreApart}
use Rattle.rule_laws.specs.Ready.{IsReady}

-- what holds of each pattern of a formula, and then of the pattern with all forms, holds of each of the formula with all forms
each-expanded : (isos : List Iso) (tokens : List PatToken) (P : Pattern → Type 0) → ((p : Pattern) → P p → P (expanded_pattern isos tokens p))
    → (f : Plain) → EachPattern P f → EachPattern P (expanded_formula isos tokens f)
each-expanded isos tokens P g True h = tt
each-expanded isos tokens P g (Atom p) h = g p h
each-expanded isos tokens P g EarlyExit h = tt
each-expanded isos tokens P g (BraceOpen p b) h = g p h
each-expanded isos tokens P g (BraceClose p b) h = g p h
each-expanded isos tokens P g (Inside b) h = tt
each-expanded isos tokens P g (Outside b) h = tt
each-expanded isos tokens P g (Not f) h = each-expanded isos tokens P g f h
each-expanded isos tokens P g (And f k) h = (each-expanded isos tokens P g f h.0, each-expanded isos tokens P g k h.1)
each-expanded isos tokens P g (Or f k) h = (each-expanded isos tokens P g f h.0, each-expanded isos tokens P g k h.1)
each-expanded isos tokens P g (AX f) h = each-expanded isos tokens P g f h
each-expanded isos tokens P g (EX f) h = each-expanded isos tokens P g f h
each-expanded isos tokens P g (AU f k) h = (each-expanded isos tokens P g f h.0, each-expanded isos tokens P g k h.1)
each-expanded isos tokens P g (EU f k) h = (each-expanded isos tokens P g f h.0, each-expanded isos tokens P g k h.1)
each-expanded isos tokens P g (After f) h = each-expanded isos tokens P g f h
each-expanded isos tokens P g (InBranch i f) h = each-expanded isos tokens P g f h
each-expanded isos tokens P g (Exists x f) h = each-expanded isos tokens P g f h

all-same : (f g : Var → Bool) → ((x : Var) → f x ≡ g x) → (xs : List Var) → list_all f xs ≡ list_all g xs
all-same f g e [] = refl
all-same f g e (x ∷ xs) = ap₂ (λ (a b : Bool). a && b) (e x) (all-same f g e xs)

-- what is read off a pattern stays
abbrev pub Stays : (List VarDecl → List PatToken → Pattern → Var → Bool) → Type 0
Stays answer = (isos : List Iso) (words tokens : List PatToken) (decls : List VarDecl) (p : Pattern) (x : Var)
    → answer decls tokens (expanded_pattern isos words p) x ≡ answer decls tokens p x

module _ (isos : List Iso)
    (formula : (is : List Iso) (r s : Rule) → IsExpandedRule is r s → formula_of s ≡ expanded_formula is r.tokens (formula_of r))
    (stay : Stays stands) (surely : Stays sure)
    (binds : (is : List Iso) (r s : Rule) (x : Var) → IsExpandedRule is r s
    → bound (sure s.vars s.tokens) (formula_of s) x ≡ bound (sure r.vars r.tokens) (formula_of r) x) where
  rule-ready : (r s : Rule) → IsExpandedRule isos r s → IsReady r → IsReady s
  rule-ready r s is may =
      let own : EachPattern (SureStand r.vars r.tokens) (formula_of s) =
      subst (EachPattern (SureStand r.vars r.tokens)) (sym (formula isos r s is))
      (each-expanded isos r.tokens (SureStand r.vars r.tokens)
      (λ p h x e. stay isos r.tokens r.tokens r.vars p x ∙ h x (sym (surely isos r.tokens r.tokens r.vars p x) ∙ e)) (formula_of r) may.stand) in
      let words : EachPattern (SureStand r.vars s.tokens) (formula_of s) =
      subst (λ (ts : List PatToken). EachPattern (SureStand r.vars ts) (formula_of s)) (sym is.tokens) own in
      let exports : AreApart s.exports (flat_map inherited_by r.vars) =
      subst (λ (xs : List Var). AreApart xs (flat_map inherited_by r.vars)) (sym is.exports) may.apart in
      record {
        stand = subst (λ (ds : List VarDecl). EachPattern (SureStand ds s.tokens) (formula_of s)) (sym is.vars) words;
        binds =
            all-same (bound (sure s.vars s.tokens) (formula_of s)) (bound (sure r.vars r.tokens) (formula_of r)) (λ x. binds isos r s x is) s.exports
            ∙ ap (list_all (bound (sure r.vars r.tokens) (formula_of r))) is.exports
            ∙ may.binds;
        apart = subst (λ (ds : List VarDecl). AreApart s.exports (flat_map inherited_by ds)) (sym is.vars) exports;
        even = subst HaveEvenBlocks (sym is.tokens) may.even;
      }

  pub rules-ready : (rs ss : List Rule) → AreExpanded isos rs ss → AllByRecursion IsReady rs → AllByRecursion IsReady ss
  rules-ready [] [] are may = tt
  rules-ready [] (s ∷ ss) are may = absurd are
  rules-ready (r ∷ rs) [] are may = absurd are
  rules-ready (r ∷ rs) (s ∷ ss) are may = (rule-ready r s are.0 may.0, rules-ready rs ss are.1 may.1)

-- ---- how many

as-many : (isos : List Iso) (rs ss : List Rule) → AreExpanded isos rs ss → length ss ≡ length rs
as-many isos [] [] are = refl
as-many isos [] (s ∷ ss) are = absurd are
as-many isos (r ∷ rs) [] are = absurd are
as-many isos (r ∷ rs) (s ∷ ss) are = ap suc (as-many isos rs ss are.1)

below : (n : ℕ) → nat_lt n 4294967296 ≡ true → n < 4294967296
below n h = grind (arith, nat_tests)

pub few-rules : (isos : List Iso) (rs ss : List Rule) → AreExpanded isos rs ss → nat_lt (length rs) 4294967296 ≡ true → length ss < 4294967296
few-rules isos rs ss are h = subst (λ (n : ℕ). n < 4294967296) (sym (as-many isos rs ss are)) (below (length rs) h)
