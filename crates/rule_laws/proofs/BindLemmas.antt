-- The formula of a rule binds what the rule exports.
use Rattle.std.proofs.Common.{◌≡◌, true, None, []}
use Rattle.std.specs.List.{list_all, AllByRecursion}
use Rattle.smpl_patch.specs.declared.rule.Rule.{Rule}
use Rattle.smpl_patch.specs.declared.rule.Patch.{Patch}
use Rattle.smpl_patch.specs.Patterns.{sure}
use Rattle.smpl_patch.specs.Sound.{is_own_var, IsSound}
use Rattle.ctl_formula.specs.Bounds.{bound}
use Rattle.ctl_translate.specs.Rules.{formula_of, first_unbound}
use Rattle.rule_laws.proofs.TestLemmas.{each-then, each-both, sound-each}
use Rattle.rule_laws.proofs.RightLemmas.{IsRight}

-- each exported variable is bound
abbrev pub Binds : Rule → Type 0
Binds r = list_all (bound (sure r.vars r.tokens) (formula_of r)) r.exports ≡ true

abbrev pub ExportsOwn : Rule → Type 0
ExportsOwn r = list_all (is_own_var r.vars) r.exports ≡ true

abbrev pub ExportsAreBound : Type 0
ExportsAreBound = (r : Rule) → first_unbound r ≡ None → ExportsOwn r → Binds r

pub patch-binds : ExportsAreBound → (patch : Patch) → IsSound patch → AllByRecursion IsRight patch.rules → AllByRecursion Binds patch.rules
patch-binds law patch s right =
    each-then (λ r. IsRight r × ExportsOwn r) Binds (λ r h. law r h.0.1 h.1) patch.rules
    (each-both IsRight ExportsOwn patch.rules right (sound-each ExportsOwn (λ earlier r h. h.exports) [] patch.rules s.rules))
