use Rattle.std.proofs.Common.{◌≡◌, drop}
use Rattle.pat_match.specs.Tokens.{not_places}
use Rattle.pat_match.proofs.tokens.with_not_places.Given as goal

abbrev pub invariant-loop-decl : goal.invariant-loop-decl
invariant-loop-decl l = not_places (drop l.decl-index l.decls) l.x ≡ not_places l.decls l.x
