use Rattle.std.proofs.Common.{◌≡◌, ◌||◌, drop}
use Rattle.std.specs.List.{list_any}
use Rattle.smpl_terms.specs.declared.var.Var.{Var as Variable}
use Rattle.smpl_patch.specs.Patterns.{is_meta_of, in_line}
use Rattle.pattern_vars.specs.Reads.{has}
use Rattle.pattern_vars.proofs.reads.put_line.Given as goal

abbrev pub invariant-loop-token : goal.invariant-loop-token
invariant-loop-token l = (y : Variable) →
    (has l.set y || list_any (λ t. is_meta_of l.decls t t.kind y) (drop l.token-index l.token-items)) ≡ (has l.initial.set y || in_line l.decls y l.line)
