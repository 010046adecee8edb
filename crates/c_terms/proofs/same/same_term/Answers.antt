use Rattle.std.proofs.Common.{sym, ◌∙◌}
use Rattle.c_terms.proofs.BareLaws.{same-bare, bare-same}
use Rattle.c_terms.proofs.same.same_term.Goals as goal

pub returns-clause-ids_aside : goal.returns-clause-ids_aside
returns-clause-ids_aside c =
    (λ h. same-bare c.args.a.now c.args.b.now (sym c.same_trees.ensures ∙ h), λ e. c.same_trees.ensures ∙ bare-same c.args.a.now c.args.b.now e)
