-- The value of a condition, by its form.
use Rattle.std.proofs.Common.{◌≡◌, ℕ, Bool, true, ◌&&◌, ◌||◌, not, eqb, sym, ap, ◌∙◌, List}
use Rattle.std.specs.List.{list_any}
use Rattle.c_terms.specs.Same.{same_bytes}
use Rattle.smpl_patch.specs.declared.rule.Dep.{Dep}
use Rattle.smpl_patch.specs.declared.rule.Dep.TheVariants as dep
use Rattle.smpl_patch.specs.declared.rule.Dep.TheFolds.{fold-roll-Dep}
use Rattle.rule_envs.specs.Depends.{judge, judge_step}

module _ (carried had : List ℕ) (defined : List (List ℕ)) where
  pub judge-Always : judge carried had defined dep.Always ≡ true
  judge-Always = ap (judge carried had defined) (sym dep.rolls-Always) ∙ fold-roll-Dep Bool (judge_step carried had defined) _

  pub judge-Had : (rule : ℕ) → judge carried had defined (dep.Had rule) ≡ list_any (λ r. eqb r rule) carried
  judge-Had rule = ap (judge carried had defined) (sym (dep.rolls-Had rule)) ∙ fold-roll-Dep Bool (judge_step carried had defined) _

  pub judge-Ever : (rule : ℕ) → judge carried had defined (dep.Ever rule) ≡ list_any (λ r. eqb r rule) had
  judge-Ever rule = ap (judge carried had defined) (sym (dep.rolls-Ever rule)) ∙ fold-roll-Dep Bool (judge_step carried had defined) _

  pub judge-Defined : (name : List ℕ) → judge carried had defined (dep.Defined name) ≡ list_any (λ d. same_bytes d name) defined
  judge-Defined name = ap (judge carried had defined) (sym (dep.rolls-Defined name)) ∙ fold-roll-Dep Bool (judge_step carried had defined) _

  pub judge-Not : (d : Dep) → judge carried had defined (dep.Not d) ≡ not (judge carried had defined d)
  judge-Not d = ap (judge carried had defined) (sym (dep.rolls-Not d)) ∙ fold-roll-Dep Bool (judge_step carried had defined) _

  pub judge-Both : (d e : Dep) → judge carried had defined (dep.Both d e) ≡ (judge carried had defined d && judge carried had defined e)
  judge-Both d e = ap (judge carried had defined) (sym (dep.rolls-Both d e)) ∙ fold-roll-Dep Bool (judge_step carried had defined) _

  pub judge-Either : (d e : Dep) → judge carried had defined (dep.Either d e) ≡ (judge carried had defined d || judge carried had defined e)
  judge-Either d e = ap (judge carried had defined) (sym (dep.rolls-Either d e)) ∙ fold-roll-Dep Bool (judge_step carried had defined) _
