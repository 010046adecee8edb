use Rattle.std.proofs.Common.{◌∙◌}
use Rattle.c_terms.proofs.NamesLemmas.{any-items}
use Rattle.smpl_meta.proofs.type_names.TypeNames.has.Goals as goal

pub returns : goal.returns
returns c = rw (← c.self.view_is) (c.contains.ensures ∙ any-items (λ k. k.items) c.args.name.now c.self.inside.names.keys)
