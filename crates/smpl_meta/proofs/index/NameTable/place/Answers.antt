use Rattle.std.proofs.Common.{ap, ◌∙◌}
use Rattle.smpl_meta.specs.Index.{place_from}
use Rattle.smpl_meta.proofs.index.NameTable.place.Goals as goal

pub returns : goal.returns
returns c = c.find.ensures ∙ c.self.invariant c.args.name.now ∙ ap (λ names. place_from 0 names c.args.name.now) c.self.view_is
