use Rattle.std.proofs.Common.{◌≡◌, ◌&&◌, take, Bool, true}
use Rattle.std.specs.List.{list_all}
use Rattle.smpl_terms.specs.Environments.{Environment}
use Rattle.env_sets.specs.Sets.{set_denotes, set_vars}
use Rattle.smpl_terms.specs.declared.var.Var.{Var}
use Rattle.pat_match.specs.Vars.{place_vars}
use Rattle.pat_match.specs.Tokens.{is_place}
use Rattle.pat_match.proofs.tokens.with_positions.Given as goal

abbrev pub invariant-loop-x : goal.invariant-loop-x
invariant-loop-x l = record {
  meaning : (env : Environment) → set_denotes l.out env ≡ (set_denotes l.fn.set env && list_all (is_place l.decls env l.id) (take l.x-index l.positions));
  vars : (t : Var → Bool) → set_vars t l.fn.set ≡ true → list_all (place_vars l.decls t) (take l.x-index l.positions) ≡ true → set_vars t l.out ≡ true;
}
