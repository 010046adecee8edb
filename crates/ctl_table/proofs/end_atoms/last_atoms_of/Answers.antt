use Rattle.std.proofs.Common.{◌≡◌, ◌∙◌, ap, rules, List, length}
use Rattle.smpl_terms.specs.declared.var.Var.{Var}
use Rattle.pattern_vars.specs.Reads.{has}
use Rattle.ctl_table.specs.declared.end_atoms.LastAtoms.{LastAtoms}
use Rattle.ctl_table.proofs.EachLemmas.{last_atoms-made}
use Rattle.ctl_table.proofs.end_atoms.last_atoms_of.Goals as goal

pub returns : goal.returns
returns c =
    let n : LastAtoms = record {
      atoms = c.in_ok-of.field-0;
      names = c.in_ok-of-2.field-0;
      inner = c.new-2.result;
      alone = c.in_ok-alone.alone;
      around = c.in_ok-around.around;
    } in
    let wide : c.in_ok-around.around ≡ length c.args.scope.now = search rules in
    record {
      made = last_atoms-made c.args.parts.now c.at_inner-2.new.parts c.args.scope.now c.new.result c.new-names.result c.args.atoms n c.requires
          c.in_ok-of.ensures.value c.new-2.ensures c.new.ensures c.new-names.ensures
          (λ y. ap (λ (z : List Var). has z y) c.in_ok-of-2.ensures.value ∙ c.in_ok-put_names.ensures y) c.in_ok-alone.ensures.made wide;
    }
