use Rattle.std.proofs.Common.{◌≡◌, subst, true, List}
use Rattle.std.specs.Result.{IfOk}
use Rattle.smpl_terms.specs.declared.var.Var.{Var}
use Rattle.smpl_patch.specs.Bodies.{body}
use Rattle.pattern_vars.specs.Reads.{has}
use Rattle.pattern_vars.specs.VarPlaces.Placing as placing
use Rattle.pattern_vars.specs.VarPlaces.Places.{reading_at}
use Rattle.pattern_vars.proofs.VarPlaces.KeptLemmas.{filter-same}
use Rattle.ctl_table.proofs.unquantified.lone.Goals as goal

pub returns : goal.returns
returns c =
    subst (λ (z : List Var). IfOk c.among.result (λ found. found ≡ z))
    (filter-same (has c.in_ok-set.set) (λ x. placing.any_body true (λ p. (reading_at c.args.m.now.reader).stands p x)
    (body c.args.piece.now)) c.args.m.now.alone.now c.in_ok-set.ensures) c.among.ensures
