-- Whether the condition that a rule depends on holds for an environment.
use Rattle.std.specs.Prelude.{ℕ, Bool, true, ◌&&◌, ◌||◌, not, eqb, List}
use Rattle.std.specs.List.{list_any}
use Rattle.c_terms.specs.Same.{same_bytes}
use Rattle.smpl_patch.specs.declared.rule.Dep.{Dep}
use Rattle.smpl_patch.specs.declared.rule.Dep.TheOpen.{Dep-F}
use Rattle.smpl_patch.specs.declared.rule.Dep.TheFolds.{fold-Dep}

module _ (carried had : List ℕ) (defined : List (List ℕ)) where
  abbrev pub judge_step : Dep-F Bool → Bool
  judge_step Dep-F.Always = true
  judge_step (Dep-F.Had rule) = list_any (λ r. eqb r rule) carried
  judge_step (Dep-F.Ever rule) = list_any (λ r. eqb r rule) had
  judge_step (Dep-F.Defined name) = list_any (λ d. same_bytes d name) defined
  judge_step (Dep-F.Not d) = not d
  judge_step (Dep-F.Both d e) = d && e
  judge_step (Dep-F.Either d e) = d || e

  -- given the rules that the environment carries, those that have had a witness on the file, and the names that are defined
  abbrev pub judge : Dep → Bool
  judge = fold-Dep Bool judge_step
