use Rattle.std.proofs.Common.{◌≡◌, Bool, true, take}
use Rattle.std.specs.List.{list_any, list_all}
use Rattle.smpl_terms.specs.declared.var.Var.{Var}
use Rattle.smpl_terms.specs.Environments.{Environment}
use Rattle.env_sets.specs.Sets.{set_denotes, set_vars}
use Rattle.pat_match.specs.Spots.{seats}
use Rattle.pat_match.specs.Roles.{role_of}
use Rattle.pat_match.specs.Matching.{fits_seat}
use Rattle.pat_match.specs.Vars.{form_vars}
use Rattle.pat_match.proofs.solving.solve.Given as goal

abbrev pub invariant-loop-i : goal.invariant-loop-i
invariant-loop-i l = record {
  meaning : (env : Environment) → set_denotes l.entries.items env
      ≡ list_any (λ f. list_any (λ s. fits_seat l.context.decls.now l.context.tokens.now l.context.types.now env l.p (role_of l.node) f s.tree)
      (seats l.p.spot l.node.kind l.node.tree)) (take l.i l.forms);
  vars : (t : Var → Bool) → list_all (form_vars l.context.decls.now l.context.tokens.now t) (take l.i l.forms) ≡ true → set_vars t l.entries.items ≡ true;
}
