use Rattle.std.proofs.Common.{◌∙◌}
use Rattle.c_terms.proofs.NamesLemmas.{any-items}
use Rattle.smpl_notes.proofs.words.Words.has.Goals as goal

pub returns : goal.returns
returns c = rw (← c.self.view_is) (c.contains.ensures ∙ any-items (λ k. k.items) c.args.word.now c.self.inside.set.keys)
