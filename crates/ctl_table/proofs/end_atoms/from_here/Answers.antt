use Rattle.std.proofs.Common.{◌∙◌, ◌++◌, ap, refl, subst, List}
use Rattle.smpl_terms.specs.declared.var.Var.{Var}
use Rattle.ctl_formula.specs.Tables.{plains}
use Rattle.ctl_table.specs.declared.end_atoms.LastAtoms.{LastAtoms}
use Rattle.ctl_table.specs.Settings.{from_inner, MakesSome}
use Rattle.ctl_table.proofs.EachLemmas.{deeper-made}
use Rattle.ctl_table.proofs.end_atoms.from_here.Goals as goal

pub returns : goal.returns
returns c =
    let a = c.args.parts.now in
    let b = c.where_inner.new.parts in
    let n : LastAtoms = record {
      atoms = c.in_ok-share.field-0;
      names = c.in_ok-share-2.field-0;
      inner = c.in_ok-inner.inner;
      alone = c.in_ok-alone.alone;
      around = c.args.around;
    } in
    record {
      made = deeper-made a b c.args.scope.now c.args.n.now n c.args.around c.in_ok-found.found c.requires.below
          c.requires.around c.requires.inside c.in_ok-found.ensures
          c.in_ok-share.ensures.same c.in_ok-share-2.ensures.same
          (c.in_ok-inner.ensures ∙ ap (λ (z : List Var). z ++ c.as_slice-3.result.now) c.as_slice-2.ensures
          ∙ ap (λ (z : List Var). c.args.n.now.inner ++ z) c.as_slice-3.ensures)
          refl
          (subst (λ (z : List Var). MakesSome a b c.in_ok-alone.alone (from_inner (plains a) c.args.n.now z)) c.as_slice.ensures c.in_ok-alone.ensures.made);
    }
