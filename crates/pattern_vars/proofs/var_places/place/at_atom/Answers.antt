use Rattle.std.proofs.Common.{◌≡◌, subst, List}
use Rattle.std.specs.Result.{IfOk}
use Rattle.smpl_terms.specs.declared.var.Var.{Var}
use Rattle.pattern_vars.specs.Reads.{has}
use Rattle.pattern_vars.specs.VarPlaces.Places.{reading_at}
use Rattle.pattern_vars.proofs.VarPlaces.KeptLemmas.{filter-same}
use Rattle.pattern_vars.proofs.var_places.place.at_atom.Goals as goal

pub returns : goal.returns
returns c =
    subst (λ (z : List Var). IfOk c.among.result (λ found. found ≡ z))
    (filter-same (has c.in_ok-set.set) (λ x. (reading_at c.args.reader.now).used c.args.p.now x) c.args.vars.now c.in_ok-set.ensures) c.among.ensures
