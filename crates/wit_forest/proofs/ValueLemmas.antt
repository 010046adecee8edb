-- The values that the set assigns are those under which the part holds.
use Rattle.std.proofs.Common.{◌≡◌, ℕ, ◌+◌, true, cond, sym, ap, ◌∙◌, subst, arith, List}
use Rattle.cfg_build.specs.CfgGraph.Flow.{Flow, IsSound, count_of}
use Rattle.smpl_terms.specs.declared.var.Var.{Var}
use Rattle.smpl_terms.specs.declared.value.Value.{Value}
use Rattle.smpl_terms.specs.Environments.{Environment, change}
use Rattle.smpl_terms.proofs.VarLaws.{same_var-refl}
use Rattle.smpl_patch.specs.Patterns.{sure}
use Rattle.env_sets.specs.Sets.{Entries}
use Rattle.env_sets.specs.States.{set_at}
use Rattle.ctl_formula.specs.Bounds.{bound}
use Rattle.ctl_formula.specs.Tables.{at, plains}
use Rattle.ctl_formula.specs.Formulas.{FormulaOf}
use Rattle.ctl_fixpoint.specs.CtlHolds.Parts.{EachPattern}
use Rattle.ctl_fixpoint.specs.CtlHolds.BoundLaw.{SureStand}
use Rattle.ctl_fixpoint.specs.CtlHolds.Values.{values_of, is_among}
use Rattle.ctl_fixpoint.proofs.CtlHolds.BoundLemmas.{bound_law}
use Rattle.ctl_fixpoint.specs.States.{AreStateSets}
use Rattle.wit_forest.specs.WitSteps.Choices.{chosen, AllRise}
use Rattle.wit_forest.proofs.WitSteps.ChoiceLemmas.{all_chosen}
use Rattle.wit_forest.specs.Gathered.{holds_at, InRange}
use Rattle.wit_forest.proofs.TellLemmas.{told_is_holds}

pub changed_own : (env : Environment) (x : Var) (v : Value) → change env x v x ≡ v
changed_own env x v = ap (λ b. cond b v (env x)) (same_var-refl x)

pub values_told : (g : Flow) (f : FormulaOf) (rows : List (List Entries)) → IsSound g → AreStateSets g f rows
    → (most i s : ℕ) → InRange g f most i s → EachPattern (SureStand f.decls f.tokens) (at (plains f.nodes) i)
    → (x : Var) → bound (sure f.decls f.tokens) (at (plains f.nodes) i) x ≡ true → AllRise (set_at rows i s)
    → (env : Environment) (v : Value) → chosen x env (set_at rows i s) v ≡ holds_at g f (change env x v) i s
values_told g f rows ok sets most i s r stand x b rise env v =
    all_chosen x env (values_of g) v (set_at rows i s) rise
    (λ u h. subst (λ w. is_among (values_of g) w ≡ true) (changed_own env x u)
    ((bound_law f.decls f.tokens g ok (count_of g + 1) (omega arith) (at (plains f.nodes) i) stand s r.node (change env x u) x).0 b
    (sym (told_is_holds g f rows ok sets i s r.within r.part r.node (change env x u)) ∙ h)))
    ∙ told_is_holds g f rows ok sets i s r.within r.part r.node (change env x v)
