use Rattle.std.proofs.Common.{◌≡◌, ◌||◌, drop}
use Rattle.std.specs.List.{list_any}
use Rattle.smpl_terms.specs.declared.var.Var.{Var as Variable}
use Rattle.smpl_patch.specs.Patterns.{in_line, in_block}
use Rattle.pattern_vars.specs.Reads.{has}
use Rattle.pattern_vars.proofs.reads.put_block.Given as goal

abbrev pub invariant-loop-line : goal.invariant-loop-line
invariant-loop-line l = (y : Variable) →
    (has l.set y || list_any (in_line l.decls y) (drop l.line-index l.line-items)) ≡ (has l.initial.set y || in_block l.decls y l.block)
