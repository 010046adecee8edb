use Rattle.std.proofs.Common.{◌∙◌, ◌||◌, ap, subst, List}
use Rattle.std.specs.Result.{IfOk}
use Rattle.smpl_terms.specs.declared.var.Var.{Var}
use Rattle.pattern_vars.specs.Reads.{has}
use Rattle.ctl_formula.specs.Tables.{plains}
use Rattle.ctl_table.specs.declared.end_atoms.EndAtoms.{EndAtoms}
use Rattle.ctl_table.specs.Settings.{MakesSome}
use Rattle.ctl_table.specs.EndAtoms.{end_atoms_at}
use Rattle.ctl_table.proofs.EachLemmas.{where-made}
use Rattle.ctl_table.proofs.end_atoms.where_inner.Goals as goal

pub returns : goal.returns
returns c = record {
  made = where-made c.args.parts.now c.at_inner.new.parts c.args.n.now c.args.inner.now c.in_ok-inner.inner c.at_inner.result c.if-inner-eq0.false
      (λ y. c.in_ok-inner.ensures y ∙ ap (λ (z : List Var). has z y || has c.args.inner.now y) c.as_slice.ensures)
      (subst (λ (z : EndAtoms). IfOk c.at_inner.result
      (λ o. MakesSome c.args.parts.now c.at_inner.new.parts o (end_atoms_at (plains c.args.parts.now) z c.in_ok-inner.inner)))
      c.get.ensures.value c.at_inner.ensures.made);
}
