use Rattle.std.proofs.Common.{◌∙◌}
use Rattle.c_terms.proofs.NamesLemmas.{any-items}
use Rattle.iso_expand.proofs.iso_forms.listed.Seen.has.Goals as goal

pub returns : goal.returns
returns c = rw (← c.self.view_is) (c.contains.ensures ∙ any-items (λ k. k.items) c.args.key.now c.self.inside.set.keys)
