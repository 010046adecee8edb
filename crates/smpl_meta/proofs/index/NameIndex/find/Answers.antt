use Rattle.std.proofs.Common.{◌∙◌}
use Rattle.smpl_meta.proofs.IndexLemmas.{found}
use Rattle.smpl_meta.proofs.index.NameIndex.find.Goals as goal

pub returns : goal.returns
returns c = rw (← c.self.view_is) (c.copied.ensures ∙ c.get.ensures.value ∙ found (λ k. k.items) c.args.name.now c.self.inside.numbers.entries)
