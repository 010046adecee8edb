use Rattle.std.proofs.Common.{◌≡◌, drop, map}
use Rattle.std.specs.List.{list_all}
use Rattle.c_terms.specs.Trees.{join, leaves}
use Rattle.pat_match.specs.Matching.{token_passes, keeps}
use Rattle.pat_match.proofs.live.+keeps_part.Given as goal

abbrev pub invariant-loop-child : goal.invariant-loop-child
invariant-loop-child l = list_all (token_passes l.context.decls.now l.context.tokens.now (keeps l.context.decls.now l.context.tokens.now l.spot l.first l.form))
    (join (map leaves (drop l.child-index l.child-items)))
    ≡ list_all (token_passes l.context.decls.now l.context.tokens.now (keeps l.context.decls.now l.context.tokens.now l.spot l.first l.form)) (leaves l.part)
