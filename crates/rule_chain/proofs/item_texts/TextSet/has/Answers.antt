use Rattle.std.proofs.Common.{◌∙◌}
use Rattle.c_terms.proofs.NamesLemmas.{any-items}
use Rattle.rule_chain.proofs.item_texts.TextSet.has.Goals as goal

pub returns : goal.returns
returns c = rw (← c.self.view_is) (c.contains.ensures ∙ any-items (λ k. k.items) c.args.text.now c.self.inside.set.keys)
