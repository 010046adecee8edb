use Rattle.std.proofs.Common.{◌≡◌, ◌||◌, Some, drop}
use Rattle.std.specs.List.{list_any}
use Rattle.smpl_terms.specs.declared.var.Var.{Var}
use Rattle.smpl_patch.specs.Patterns.{in_plus}
use Rattle.pattern_vars.specs.Reads.{has}
use Rattle.smpl_file.proofs.smpl_check.plus.put_tokens.Given as goal

abbrev pub invariant-loop-token : goal.invariant-loop-token
invariant-loop-token l = (y : Var) → (has l.set y || list_any (λ t. in_plus l.decls (Some t) y) (drop l.token-index l.tokens))
    ≡ (has l.initial.set y || list_any (λ t. in_plus l.decls (Some t) y) l.tokens)
