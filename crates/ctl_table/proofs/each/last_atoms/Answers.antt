use Rattle.std.proofs.Common.{subst, sym, true, ◌++◌, Option, Some}
use Rattle.smpl_patch.specs.Bodies.{element}
use Rattle.ctl_table.specs.Table as table
use Rattle.ctl_table.specs.declared.end_atoms.EndAtoms.{EndAtoms}
use Rattle.ctl_table.specs.declared.end_atoms.LastAtoms.{LastAtoms}
use Rattle.ctl_table.specs.Settings.{setting_at, MakesLast}
use Rattle.ctl_table.specs.EndAtoms.{MakesEndAtoms}
use Rattle.ctl_table.proofs.EachLemmas.{last-some}
use Rattle.ctl_table.proofs.each.last_atoms.Goals as goal

pub returns-in_ok-of-in-Some : goal.returns-in_ok-of-in-Some
returns-in_ok-of-in-Some c =
    let m = setting_at c.args.m.now in
    let e = element c.args.e.now in
    let a = c.args.parts.now in
    let b = c.ends_of_option.new.parts in
    let d = c.last_atoms_of.new.parts in
    record {
      made = subst (λ (z : LastAtoms). MakesLast m e c.args.scope.now a d c.args.nexts.now (Some z)) (sym c.in_ok-of-in-Some.ensures.value)
          (last-some a b d m e c.args.scope.now c.args.nexts.now c.in-Some.atoms c.in_ok-found-in-Some.found
          (subst (λ (z : Option EndAtoms). MakesEndAtoms a b z
          (λ more. table.ends_of_option m true (Some e) (c.args.scope.now ++ more))) c.in-Some.is c.in_ok-ends_of_option.ensures.made)
          c.in_ok-found-in-Some.ensures.made);
    }
