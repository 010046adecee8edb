use Rattle.std.proofs.Common.{◌<◌, ◌∙◌, refl, arith, ◌&&◌, Bool, List, length}
use Rattle.std.specs.List.{list_any}
use Rattle.smpl_terms.specs.declared.var.Var.{Var}
use Rattle.smpl_terms.specs.Vars.{same_var}
use Rattle.pattern_vars.specs.Reads.{has}
use Rattle.pattern_vars.specs.Keys.{value_of}
use Rattle.pattern_vars.proofs.SetLemmas.{any-step, any-end}
use Rattle.pattern_vars.proofs.SureLemmas.{element_at}
use Rattle.pattern_vars.specs.VarPlaces.Homes.{passes}
use Rattle.pattern_vars.proofs.VarPlaces.KeyLemmas.{common}
use Rattle.pattern_vars.proofs.var_places.homes.passing.Goals as goal

pub loop-i-preserved : goal.loop-i-preserved
loop-i-preserved c y =
    let vars = c.args.vars.now in
    let l : c.loop-i.i < length vars = omega arith in
    let one : Var → Bool = λ v. passes c.args.again (value_of c.args.homes.now.entries v) && same_var v y in
    any-step one (λ (vs : List Var). list_any one vs) (λ v vs. refl) vars c.loop-i.i c.at.result.now
    (has c.loop-i.found y) (has c.put_passing.new.set y) _ l (element_at vars c.loop-i.i c.at.result.now l c.at.ensures)
    (c.in_ok-put_passing.ensures y) (c.loop-i.invariant y)

pub returns : goal.returns
returns c y =
    let vars = c.args.vars.now in
    let one : Var → Bool = λ v. passes c.args.again (value_of c.args.homes.now.entries v) && same_var v y in
    any-end (λ (vs : List Var). list_any one vs) refl vars c.loop-i.i (has c.loop-i.found y) _ (omega arith) (c.loop-i.invariant y)
    ∙ common (λ v. passes c.args.again (value_of c.args.homes.now.entries v)) vars y
