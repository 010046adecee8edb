use Rattle.std.proofs.Common.{sym, ◌∙◌}
use Rattle.c_terms.proofs.NamesLemmas.{any-items, has_name-Contains}
use Rattle.c_terms.proofs.names.Names.has.Goals as goal

known : goal.returns-clause-value
known c = rw (← c.self.view_is) (c.contains.ensures ∙ any-items (λ k. k.items) c.args.name.now c.self.inside.set.keys)

pub returns-clause-value : goal.returns-clause-value
returns-clause-value c = known c

pub returns-clause-member : goal.returns-clause-member
returns-clause-member c =
    let h = has_name-Contains c.args.self.now c.args.name.now in
    (λ e. h.0 (sym (known c) ∙ e), λ m. known c ∙ h.1 m)
